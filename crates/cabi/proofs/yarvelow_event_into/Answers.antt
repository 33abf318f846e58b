use mathlib.Core.Path.{ap, ◌∙◌}
use Rattle.answers.specs.Verdict.{code_of}
use Rattle.cabi.specs.Laws.Calling.{into-number}
use Rattle.cabi.proofs.yarvelow_event_into.Goals as goal

pub returns-clause-value : goal.returns-clause-value
returns-clause-value c = c.code.ensures ∙ ap code_of c.event_into.ensures.value ∙ into-number c.args.image.now c.args.port c.args.event _
