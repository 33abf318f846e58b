use mathlib.Core.Path.{ap, ◌∙◌}
use Rattle.answers.specs.Verdict.{code_of}
use Rattle.cabi.specs.Laws.Calling.{event-number}
use Rattle.cabi.proofs.yarvelow_event.Goals as goal

pub returns-clause-value : goal.returns-clause-value
returns-clause-value c = c.code.ensures ∙ ap code_of c.event_in.ensures.value ∙ event-number c.args.image.now c.args.port c.args.event
