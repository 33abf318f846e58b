use Rattle.std.proofs.Common.{◌≡◌, ◌+◌, ◌*◌, ◌^◌, length}
use Rattle.model.specs.Bytes.{value}
use Rattle.records.proofs.codec.get_any.Given as goal

abbrev pub invariant-loop-b : goal.invariant-loop-b
invariant-loop-b l = value l.b-iterator.iter.rest.now + 256 ^ length l.b-iterator.iter.rest.now * l.x ≡ value l.field
