use mathlib.Core.Path.{refl, ap, ◌∙◌}
use Rattle.model.specs.Bytes.{sum}
use Rattle.model.specs.Layout.{copies_widths, copies_place}
use Rattle.model.specs.Good.{fault, copy_rules}
use Rattle.rules.specs.Faults.{ruled, first, second, third}
use Rattle.rules.proofs.faults.copy_rules.Goals as goal

pub returns : goal.returns
unfolding sum copies_widths copy_rules
returns c =
    let a = c.args in
    let at = copies_place a.d a.k in
    ruled c.within.ensures (c.copies_field.ensures ∙ ap (fault 4 a.k) (first a.d at))
    (ruled c.within-2.ensures (c.copies_field-2.ensures ∙ ap (fault 4 a.k) (second a.d at))
    (ruled c.within-3.ensures (c.copies_field-3.ensures ∙ ap (fault 4 a.k) (third a.d at))
    (ruled refl (c.copies_field-4.ensures ∙ ap (fault 4 a.k) (third a.d at)) refl)))
