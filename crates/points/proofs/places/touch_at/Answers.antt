use Rattle.std.proofs.Common.{◌∙◌, ap, le_refl}
use Rattle.std.specs.Option.{unwrap_or}
use Rattle.model.specs.Parts.Charges.{untouched}
use Rattle.points.specs.Places.{touch-table}
use Rattle.points.proofs.places.touch_at.Goals as goal

pub returns : goal.returns
returns c =
    c.unwrap_or.ensures
    ∙ ap (λ o. unwrap_or o untouched) c.copied.ensures
    ∙ c.get.ensures.lookup.4 (le_refl c.args.n) untouched
    ∙ touch-table c.args.n
