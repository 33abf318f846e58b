use Rattle.std.proofs.Common.{◌≡◌, ◌-◌, length}
use Rattle.std.proofs.lemmas.List.Edits.{sets}
use Rattle.model.specs.Bytes.{little}
use Rattle.records.proofs.codec.put_any.Given as goal

abbrev pub invariant-loop-b : goal.invariant-loop-b
invariant-loop-b l = sets l.field l.b-index (little (length l.initial.field - l.b-index) l.x) ≡ little (length l.initial.field) l.v
