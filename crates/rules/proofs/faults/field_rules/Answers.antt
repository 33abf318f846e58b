use mathlib.Core.Path.{refl, ap, ◌∙◌}
use mathlib.Core.Bool.{Bool, not, ◌||◌}
use lib.Dec.{eqb}
use Rattle.model.specs.Table.{most}
use Rattle.model.specs.Bytes.{sum}
use Rattle.model.specs.Layout.{port_widths}
use Rattle.model.specs.Good.{field_rules}
use Rattle.points.specs.Places.{named_table}
use Rattle.rules.specs.Faults.{ruled}
use Rattle.rules.proofs.faults.field_rules.Goals as goal

pub returns : goal.returns
unfolding most sum port_widths field_rules
returns c =
    let n = c.args.p.point in
    let bit = rw c.from.ensures at c.stands-bit.ensures in
    ruled (c.has.ensures ∙ named_table n) c.port_field.ensures
    (ruled (ap (λ (b : Bool). not (eqb n 6) || not b) bit) c.port_field-2.ensures
    (ruled (ap (λ (b : Bool). not (eqb n 15) || b) bit) c.port_field-3.ensures
    (ruled refl c.port_field-4.ensures
    (ruled refl c.port_field-5.ensures
    (ruled refl c.port_field-6.ensures
    (ruled refl c.port_field-7.ensures
    (ruled refl c.port_field-8.ensures
    (ruled refl c.port_field-9.ensures
    (ruled refl c.port_field-10.ensures refl)))))))))
