use mathlib.Core.Path.{ap, ◌∙◌}
use Rattle.model.specs.declared.Port.{Port}
use Rattle.image.proofs.Laws.Checking.{seen-port}
use Rattle.image.proofs.checking.Held.made.Goals as goal

pub returns : goal.returns
returns c =
    let i = c.self.inside in
    λ h. ap (λ (p : Port). p.made) (c.port_in-p.ensures ∙ seen-port c.args.self.now i.bytes.now i.d c.self.invariant.0 c.self.invariant.1 c.self.view_is c.args.j h)
