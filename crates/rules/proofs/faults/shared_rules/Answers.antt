use mathlib.Core.Path.{refl, ap, ◌∙◌}
use Prim.Native.Nat.{ℕ}
use lib.Dec.{ltb}
use Rattle.std.proofs.Common.{rules}
use Rattle.model.specs.Bytes.{sum}
use Rattle.model.specs.Layout.{head_widths, shared_widths, port_widths, copied_widths, port_place}
use Rattle.model.specs.Good.{fault, shared_rules}
use Rattle.rules.specs.Faults.{ruled, first, second}
use Rattle.rules.proofs.faults.shared_rules.Goals as goal

pub returns : goal.returns
unfolding sum head_widths shared_widths port_widths copied_widths shared_rules
returns c =
    let d = c.args.s.d in
    ruled c.within.ensures c.shared_field.ensures
    (ruled refl c.shared_field-2.ensures
    (ruled (ap (λ (n : ℕ). ltb n d) c.from.ensures) c.shared_field-3.ensures
    (ruled c.spin_good.ensures (search rules)
    (ruled c.within-2.ensures (c.copied_field.ensures ∙ ap (fault 4 d) (first d (port_place d)))
    (ruled c.within-3.ensures (c.copied_field-2.ensures ∙ ap (fault 4 d) (second d (port_place d))) refl)))))
