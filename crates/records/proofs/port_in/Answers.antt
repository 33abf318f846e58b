use Rattle.std.proofs.Common.{refl, ap, ◌∙◌, ℕ}
use Rattle.model.specs.Layout.{port_widths, port_of}
use Rattle.records.specs.Records.{there}
use Rattle.records.specs.Laws.There.{kept}
use Rattle.records.proofs.port_in.Goals as goal

pub returns : goal.returns
unfolding port_widths port_of
returns c =
    c.port_of.ensures
    ∙ kept port_of port_widths refl c.port_place.result c.args.bytes.now _ c.row_in.ensures (λ i. (c.type_inv.bytes i).fits)
    ∙ ap (λ (n : ℕ). port_of (there port_widths n c.args.bytes.now)) c.port_place.ensures
