use mathlib.Core.Path.{ap, ◌∙◌}
use Rattle.model.specs.declared.Port.{Port}
use Rattle.model.specs.Event.{first_of, refusals}
use Rattle.answers.specs.Verdict.{passed}
use Rattle.cabi.specs.Laws.Acting.{refuses-port, refuses-first}
use Rattle.cabi.proofs.acts.refusal_in.Goals as goal

pub returns-then-d-port : goal.returns-then-d-port
returns-then-d-port c = refuses-port c.args.d c.args.image.now c.requires c.args.port c.args.event c.if-d-port.true

pub returns : goal.returns
returns c =
    c.refusal.ensures
    ∙ ap (λ (x : Port). passed (first_of (refusals c.args.event x))) c.port_in.ensures
    ∙ ap passed (refuses-first c.args.d c.args.image.now c.requires c.args.port c.args.event c.if-d-port.false)
