use Rattle.std.proofs.Common.{refl, ◌∙◌, List, [], ℕ}
use Rattle.model.specs.Bytes.{sum}
use Rattle.model.specs.Layout.{shared_widths, head_widths, shared_of}
use Rattle.records.specs.Laws.There.{kept}
use Rattle.records.proofs.front_in.Goals as goal

pub returns : goal.returns
unfolding shared_widths head_widths sum shared_of
returns c = c.shared_of.ensures ∙ kept (λ (vs : List ℕ). shared_of 0 vs []) shared_widths refl 14 c.args.bytes.now _ c.row_in-front.ensures (λ i. (c.type_inv.bytes i).fits)
