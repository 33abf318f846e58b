use mathlib.Core.Path.{refl, ap, ◌∙◌}
use Prim.Native.Nat.{ℕ}
use lib.Dec.{eqb, ltb}
use Rattle.model.specs.Bytes.{sum}
use Rattle.model.specs.Layout.{port_widths}
use Rattle.model.specs.Good.{work_rules}
use Rattle.points.specs.Places.{own-table, seen-table, candidate-table, candidate-spin-table}
use Rattle.rules.specs.Faults.{ruled, outside, setting, spun}
use Rattle.rules.proofs.faults.work_rules.Goals as goal

pub returns : goal.returns
unfolding sum port_widths work_rules
returns c =
    let a = c.args in
    let w = a.p.work in
    ruled refl c.port_field.ensures
    (ruled (outside _ _ (eqb w.own 0) (c.has-own.ensures ∙ own-table _)) c.port_field-2.ensures
    (ruled (ap (λ (n : ℕ). ltb n a.d) c.from.ensures) c.port_field-3.ensures
    (ruled (outside _ _ (eqb w.seenowner 0) (c.has-seen.ensures ∙ seen-table _)) c.port_field-4.ensures
    (ruled (outside _ _ (eqb w.seenspin 0) (c.has-seen.ensures ∙ seen-table _)) c.port_field-5.ensures
    (ruled (setting a.p.point (ltb 0 w.seenspin)) c.port_field-6.ensures
    (ruled c.spin_good.ensures (c.spin_field.ensures ∙ spun _ _ 8)
    (ruled (ap (λ (n : ℕ). ltb n a.d) c.from-2.ensures) c.port_field-7.ensures
    (ruled (outside _ _ (eqb w.candidate 0) (c.has-candidate.ensures ∙ candidate-table _)) c.port_field-8.ensures
    (ruled (outside _ _ (eqb w.candidatespin 0) (c.has-candidatespin.ensures ∙ candidate-spin-table _)) c.port_field-9.ensures
    (ruled c.spin_good-2.ensures (c.spin_field-2.ensures ∙ spun _ _ 10) refl))))))))))
