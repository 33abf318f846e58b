use mathlib.Core.Path.{◌∙◌}
use Rattle.model.specs.Run.{orders_for}
use Rattle.answers.specs.Verdict.{code_of}
use Rattle.cabi.specs.Laws.Calling.{check-number, check-refused, check-done}
use Rattle.cabi.specs.Laws.Running.{run-unread}
use Rattle.cabi.proofs.yarvelow_run.Goals as goal

pub returns-in-Err : goal.returns-in-Err
unfolding code_of
returns-in-Err c =
    let image = c.args.image.now in
    let m = run-unread image c.code.result (c.code.ensures ∙ check-number image _ c.in-Err.ensures) (check-refused image _ c.in-Err.ensures).1
    (orders_for c.args.orders.now c.args.answers.now)
    c.args.answers.now in
    record { value = m.0; image_after = m.1.0; answers_after = m.1.1 }

pub run_in-requires : goal.run_in-requires
run_in-requires c = c.in-Ok.ensures

pub returns : goal.returns
returns c = record { value = check-done c.args.image.now _ c.in-Ok.ensures; image_after = c.run_in.ensures.image_after; answers_after = c.run_in.ensures.answers_after }
