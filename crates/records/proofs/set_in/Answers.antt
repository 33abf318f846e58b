use Rattle.std.proofs.Common.{refl, List, [], ◌∷◌, ℕ, get_or}
use Rattle.model.specs.Layout.{set_width}
use Rattle.records.specs.Laws.There.{made}
use Rattle.records.proofs.set_in.Goals as goal

pub returns : goal.returns
returns c = made (λ (vs : List ℕ). get_or vs 0 0) (set_width c.args.d ∷ []) refl c.args.at c.args.bytes.now _ c.sets_in.ensures
