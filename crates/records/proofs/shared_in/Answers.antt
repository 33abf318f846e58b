use Rattle.std.proofs.Common.{refl, ◌∙◌, List, ℕ}
use Rattle.model.specs.Bytes.{sum}
use Rattle.model.specs.Layout.{shared_widths, copied_widths, head_widths, port_place, shared_of}
use Rattle.records.specs.Records.{there}
use Rattle.records.specs.Laws.There.{made, kept}
use Rattle.records.proofs.shared_in.Goals as goal

pub returns : goal.returns
unfolding shared_widths head_widths copied_widths sum shared_of
returns c =
    let d = c.args.d in
    let b = c.args.bytes.now in
    let x = c.copied_in in
    (rw c.from.ensures at c.shared_of.ensures)
    ∙ kept (λ (vs : List ℕ). shared_of d vs x.result) shared_widths refl 14 b _ c.row_in-v.ensures (λ i. (c.type_inv.bytes i).fits)
    ∙ made (λ (cs : List ℕ). shared_of d (there shared_widths 14 b) cs) (copied_widths d) refl (port_place d) b x.result x.ensures
