-- What is bad in a table, if anything is.
use Rattle.std.specs.Prelude.{cond, eqb, Option, None, Some}
use Rattle.model.specs.declared.Fault.{Fault}

-- nothing, where its place is past every image
abbrev pub found : Fault → Option Fault
found f = cond (eqb f.place 65535) None (Some f)
