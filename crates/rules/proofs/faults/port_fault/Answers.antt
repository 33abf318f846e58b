use mathlib.Core.Path.{◌≡◌, sym, ap, ◌∙◌}
use mathlib.Core.Bool.{true}
use mathlib.Core.List.{List, foldl}
use Rattle.model.specs.Table.{size_good}
use Rattle.model.specs.Good.{Rule, lower, field_rules, work_rules, copy_rules}
use Rattle.rules.specs.Faults.{in_parts}
use Rattle.rules.proofs.faults.port_fault.Goals as goal

pub returns : goal.returns
returns c =
    let a = c.args in
    let z : size_good a.s.d ≡ true = sym c.size_good.ensures ∙ c.if-not-size_good.false in
    in_parts a.f _ _ _
    (field_rules a.s.active a.k a.p)
    (work_rules a.s.d a.k a.p a.seenmade a.candidatemade)
    (copy_rules a.s.d a.k a.p.made a.c)
    (c.lowest-a.ensures ∙ ap (λ (rs : List Rule). foldl lower a.f rs) c.field_rules.ensures)
    (c.lowest-b.ensures ∙ ap (λ (rs : List Rule). foldl lower c.lowest-a.result rs) c.work_rules.ensures)
    (c.lowest.ensures ∙ ap (λ (rs : List Rule). foldl lower c.lowest-b.result rs) c.copy_rules.ensures)
    ∙ rw z
