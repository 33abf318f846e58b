-- Before turn j the bytes still to store give the whole number's bytes.
use Rattle.std.proofs.Common.{length}
use native.Mathlib.Nat.{sub-zero}
use Rattle.model.specs.Bytes.{little}
use Rattle.layout.specs.Laws.Digits.{length-little}
use Rattle.records.specs.Laws.Rows.{put-turn}
use Rattle.records.specs.Laws.There.{sets-whole}
use Rattle.records.proofs.codec.put_any.Goals as goal

pub loop-b-init : goal.loop-b-init
loop-b-init c =
    let n = length c.args.field.now in
    rw (sub-zero n) (sets-whole c.args.field.now (little n c.args.v) (rw (length-little n c.args.v)))

pub loop-b-preserved : goal.loop-b-preserved
loop-b-preserved c = put-turn c.loop-b.field _ _ c.loop-b.x c.loop-b.b-index c.loop-b-test.true c.loop-b.invariant
