-- The rules for one port of a table, as the check of an image charges them.
use Rattle.std.specs.Prelude.{List, ℕ}
use Rattle.model.specs.declared.Table.{Table}
use Rattle.model.specs.Table.{port_at, copies_at}
use Rattle.model.specs.Good.{Rule, port_rules}

-- the rules for port k of a table
abbrev pub rules_at : Table → ℕ → List Rule
rules_at t k =
    port_rules t.shared k (port_at t k) (copies_at t k) (port_at t (port_at t k).work.seenowner).made (port_at t (port_at t k).work.candidate).made
