-- `lock::steps::step` meets its contract: below 20 by `entering` and `leaving`; from 20, 30 and 40 on by the promotion with those tens.
use mathlib.Core.Path.{refl, sym, ap, ◌∙◌}
use Rattle.model.specs.Points.{Point, two, three, four, tens, back}
use Rattle.model.specs.Parts.Moves.{step}
use Rattle.lock.specs.Match.{promotion-two, promotion-three, promotion-four}
use Rattle.lock.proofs.steps.step.Goals as goal

pub returns-then-n-lt11 : goal.returns-then-n-lt11
returns-then-n-lt11 c = c.entering.ensures c.if-n-lt11.true

pub returns-then-n-lt20 : goal.returns-then-n-lt20
returns-then-n-lt20 c = c.leaving.ensures c.if-n-lt11.false c.if-n-lt20.true

pub returns-then-n-lt30 : goal.returns-then-n-lt30
unfolding tens back
returns-then-n-lt30 c =
    let v = c.args.v in
    c.promoted.ensures two refl refl
    ∙ sym (ap (λ (q : Point). step q v) (promotion-two v.own.point c.if-n-lt20.false c.if-n-lt30.true))

pub returns-then-n-lt40 : goal.returns-then-n-lt40
unfolding tens back
returns-then-n-lt40 c =
    let v = c.args.v in
    c.promoted-then-n-lt40.ensures three refl refl
    ∙ sym (ap (λ (q : Point). step q v) (promotion-three v.own.point c.if-n-lt30.false c.if-n-lt40.true))

pub returns-else-n-lt40 : goal.returns-else-n-lt40
unfolding tens back
returns-else-n-lt40 c =
    let v = c.args.v in
    c.promoted-else-n-lt40.ensures four refl refl
    ∙ sym (ap (λ (q : Point). step q v) (promotion-four v.own.point c.if-n-lt40.false))
