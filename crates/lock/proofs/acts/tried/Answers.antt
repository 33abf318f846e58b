use mathlib.Core.Path.{sym, ◌∙◌}
use Rattle.lock.specs.Sight.{seen-sight}
use Rattle.lock.proofs.acts.tried.Goals as goal

pub weighed-requires : goal.weighed-requires
weighed-requires c = seen-sight _ (sym c.sees.ensures ∙ c.if-sees.true)
