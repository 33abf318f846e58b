-- The step of one port by its point: the number of each point, what the port sees, and what a step keeps of it.
use Rattle.std.specs.Prelude.{◌≡◌, refl, true, false, ℕ, ◌+◌, ◌≤◌, ◌<◌, eqb}
use Rattle.std.proofs.Common.{sym, ◌∙◌, ap, arith, eqb-true}
use Rattle.std.proofs.Math.Bool.{and-false}
use Rattle.std.proofs.lemmas.Bool.{false≢true, lt-leb}
use Rattle.std.proofs.Math.Decide.{dec_lt}
use Rattle.model.specs.declared.Table.{Table}
use Rattle.model.specs.declared.View.{View}
use Rattle.model.specs.Table.{port_at}
use Rattle.model.specs.Points.{Point, none, p0, p1, p2, p3, p4, p5, p6, p8, p9, p10, p11, p12, p13, p14, p15, p16, p17, p18, p19, x0, x1, x2, x3, x4, x5, tens, point_of}
use Rattle.model.specs.Good.{every_below, implies, named}
use Rattle.model.specs.Parts.Moves.{view, step}
use Rattle.model.specs.Parts.Charges.{touch_at, home}
use Rattle.model.specs.Parts.Steps.{touch_of, home_of, view_of, move_of}
use Rattle.model.proofs.Laws.Tests.{implied, every-below}

-- the number of each point; 7, which is no point, where there is none
unfoldable pub number_of_point : Point → ℕ
number_of_point none = 7
number_of_point p0 = 0
number_of_point p1 = 1
number_of_point p2 = 2
number_of_point p3 = 3
number_of_point p4 = 4
number_of_point p5 = 5
number_of_point p6 = 6
number_of_point p8 = 8
number_of_point p9 = 9
number_of_point p10 = 10
number_of_point p11 = 11
number_of_point p12 = 12
number_of_point p13 = 13
number_of_point p14 = 14
number_of_point p15 = 15
number_of_point p16 = 16
number_of_point p17 = 17
number_of_point p18 = 18
number_of_point p19 = 19
number_of_point (x0 x) = tens x
number_of_point (x1 x) = tens x + 1
number_of_point (x2 x) = tens x + 2
number_of_point (x3 x) = tens x + 3
number_of_point (x4 x) = tens x + 4
number_of_point (x5 x) = tens x + 5

-- no number from 50 on is named, and below 50 a named number is that of its point: computed once
far : (n : ℕ) → 50 ≤ n → named n ≡ false
unfolding named
far n h =
    simp (lt-leb n 6 (omega arith), lt-leb n 19 (omega arith), lt-leb n 25 (omega arith), lt-leb n 35 (omega arith), lt-leb n 45 (omega arith), and-false)

near : (n : ℕ) → n < 50 → implies (named n) (eqb n (number_of_point (point_of n))) ≡ true
unfolding every_below named number_of_point tens
near = every-below 50 (λ n. implies (named n) (eqb n (number_of_point (point_of n)))) refl

pub number : (n : ℕ) (q : Point) → named n ≡ true → point_of n ≡ q → n ≡ number_of_point q
number n q h e = elim (dec_lt n 50) [
  | yes l ↦ eqb-true n (number_of_point (point_of n)) (implied (named n) _ (near n l) h) ∙ ap number_of_point e
  | no l ↦ absurd (false≢true (sym (far n (omega arith)) ∙ h))
]

-- what port k sees, with GO g of the port that it touches
abbrev pub sight_of : Table → ℕ → ℕ → View
sight_of t k g = view (port_at t k) t.shared.active t.shared.d k g t.shared.word

-- the step of a port at a known point, and the port that it touches
pub move_at : (t : Table) (k : ℕ) (q : Point) → point_of (port_at t k).point ≡ q
    → move_of t k ≡ step q (sight_of t k (port_at t (home_of t k)).go)
unfolding move_of view_of
move_at t k q e = ap (λ (q : Point). step q (view_of t k)) e

pub home_at : (t : Table) (k : ℕ) (q : Point) → point_of (port_at t k).point ≡ q → home_of t k ≡ home (touch_at q).cell k (port_at t k).work
unfolding home_of touch_of
home_at t k q e = ap (λ (q : Point). home (touch_at q).cell k (port_at t k).work) e
