use Rattle.cabi.specs.Laws.Calling.{check-accepts, check-holds}
use Rattle.cabi.specs.Laws.Running.{run-begins, run-turns, run_ends}
use Rattle.cabi.proofs.run_in.Goals as goal

pub loop-i-init : goal.loop-i-init
loop-i-init c =
    run-begins c.args.orders.now c.min-n.result _ c.args.image.now c.args.answers.now (check-holds c.args.image.now _ c.requires)
    (λ i. (c.slice_known-1.given i).fits)

pub loop-i-preserved : goal.loop-i-preserved
loop-i-preserved c =
    let l = c.loop-i in
    run-turns _ _ _ _ _ l.i l.image l.answers _ _ _ c.loop-i-test.true l.invariant c.code.ensures (c.act_in.ensures.value, c.act_in.ensures.image_after)

pub returns : goal.returns
returns c =
    let l = c.loop-i in
    let m = run_ends _ _ _ _ _ l.i l.image l.answers c.loop-i-test.false l.invariant (check-accepts c.args.image.now _ c.requires).1 in
    record { image_after = rw (← c.min-n.ensures) m.1.0; answers_after = rw (← c.min-n.ensures) m.1.1 }
