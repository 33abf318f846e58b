use mathlib.Core.Path.{◌∙◌}
use Rattle.answers.specs.Verdict.{code_of}
use Rattle.cabi.specs.Laws.Calling.{check-number, check-done}
use Rattle.cabi.proofs.yarvelow_check.Goals as goal

pub returns-in-Ok : goal.returns-in-Ok
returns-in-Ok c = check-done c.args.image.now _ c.in-Ok.ensures

pub returns-in-Err : goal.returns-in-Err
unfolding code_of
returns-in-Err c = c.code.ensures ∙ check-number c.args.image.now _ c.in-Err.ensures
