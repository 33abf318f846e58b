-- The budget of a port: the most that it can still pay until its passage ends, by its point. Its step lowers the budget by what the step costs.
use Rattle.std.specs.Prelude.{◌≡◌, Bool, true, false, cond, ◌&&◌, ◌||◌, ℕ, ◌+◌, ◌≤◌, eqb}
use Rattle.std.proofs.Math.Path.{refl}
use Rattle.std.proofs.Math.Bool.{or-true}
use native.Mathlib.Omega.{arith}
use Rattle.std.proofs.Math.Dec.{ltb}
use Rattle.model.specs.declared.Port.{Port}
use Rattle.model.specs.declared.Table.{Table}
use Rattle.model.specs.declared.View.{View}
use Rattle.model.specs.Table.{CS, EXIT, port_at, copies_at, latest, read_spin}
use Rattle.model.specs.Mask.{stands}
use Rattle.model.specs.Points.{Tens, two, three, four, Point, none, p0, p1, p2, p3, p4, p5, p6, p8, p9, p10, p11, p12, p13, p14, p15, p16, p17, p18, p19, x0, x1, x2, x3, x4, x5, tens, back, point_of}
use Rattle.model.specs.Step.{unasked}
use Rattle.model.specs.Parts.Moves.{up, bit, step}
use Rattle.model.specs.Parts.Charges.{untouched, touch_at}
use Rattle.model.proofs.Laws.Tests.{split}

-- what reading the own spin at 8 can still take, where its value is 1 or not, and the port has a copy of it or not
unfoldable pub reading : Bool → Bool → ℕ
reading one copy = cond (one || copy) 1 2

-- the budget of a promotion once it has gone back to 8, 17 or 18
abbrev onward : Tens → ℕ
onward two = 22
onward three = 9
onward four = 2

-- the budget at a point: a number, or that and what reading the own spin can still take
pub data Budget : Type 0 where
  fixed : ℕ → Budget
  waits : ℕ → Budget

abbrev in_all : ℕ → Budget → ℕ
in_all r (fixed n) = n
in_all r (waits n) = n + r

-- the budget at each point: every word touched on the way to 0 takes at most 1; at 0 it is that of the next passage
unfoldable pub budget_of : Point → Budget
budget_of none = fixed 0
budget_of p0 = fixed 33
budget_of p1 = fixed 33
budget_of p2 = fixed 32
budget_of p3 = fixed 32
budget_of p4 = fixed 31
budget_of p5 = fixed 30
budget_of p6 = fixed 29
budget_of p8 = waits 20
budget_of p9 = waits 20
budget_of p10 = fixed 20
budget_of p11 = fixed 19
budget_of p12 = fixed 19
budget_of p13 = fixed 19
budget_of p14 = fixed 18
budget_of p15 = fixed 17
budget_of p16 = fixed 16
budget_of p17 = fixed 9
budget_of p18 = fixed 2
budget_of p19 = fixed 1
budget_of (x0 x) = fixed (6 + onward x)
budget_of (x1 x) = fixed (5 + onward x)
budget_of (x2 x) = fixed (4 + onward x)
budget_of (x3 x) = fixed (3 + onward x)
budget_of (x4 x) = fixed (2 + onward x)
budget_of (x5 x) = fixed (1 + onward x)

-- the same in one number, where reading the own spin can still take r
unfoldable pub budget_at : ℕ → Point → ℕ
unfolding budget_of
budget_at r q = in_all r (budget_of q)

-- of a port that has a copy of its own spin or not
abbrev pub budget_left : Port → Bool → ℕ
budget_left p copy = budget_at (reading (eqb p.value 1) copy) (point_of p.point)

-- port k of a table has a copy of its own spin; what reading that spin can still take; and its budget
abbrev pub has_copy : Table → ℕ → Bool
has_copy t k = stands (copies_at t k).spin k

abbrev pub to_read : Table → ℕ → ℕ
to_read t k = reading (eqb (port_at t k).value 1) (has_copy t k)

abbrev pub budget : Table → ℕ → ℕ
budget t k = budget_left (port_at t k) (has_copy t k)

-- what the step of a port at point q costs, c, in either model, where the port has a copy of its own spin or not: at most 1, nothing where it
-- touches no word, and nothing for reading the own spin with a copy of it
pub record Fee (q : Point) (copy : Bool) (c : ℕ) : Type 0 where
  pub one : c ≤ 1
  pub free : touch_at q ≡ untouched → c ≡ 0
  pub held : q ≡ p8 → copy ≡ true → c ≡ 0

abbrev pub FeeOf : Table → ℕ → ℕ → Type 0
FeeOf t k c = Fee (point_of (port_at t k).point) (has_copy t k) c

-- what reading the own spin can still take before the step of its port at point q, a, and after it, b
pub record Reads (q : Point) (a b : ℕ) : Type 0 where
  pub bound : b ≤ 2
  pub looked : q ≡ p9 → b ≡ a
  pub read : q ≡ p8 → b ≡ 1

-- it takes 1 or 2, and 1 with a copy
pub reading-some : (one copy : Bool) → 1 ≤ reading one copy
unfolding reading
reading-some one copy = split (λ (n : ℕ). 1 ≤ n) (one || copy) 1 2 (λ e. omega arith) (λ e. omega arith)

pub reading-most : (one copy : Bool) → reading one copy ≤ 2
unfolding reading
reading-most one copy = split (λ (n : ℕ). n ≤ 2) (one || copy) 1 2 (λ e. omega arith) (λ e. omega arith)

pub reading-copy : (one : Bool) → reading one true ≡ 1
unfolding reading
reading-copy one = rw (or-true one)

-- where the value is not 1, what a reading costs without a copy is what the next one takes less
reading-first : (copy : Bool) {c : ℕ} → c ≤ 1 → (copy ≡ true → c ≡ 0) → c + 1 ≤ reading false copy
unfolding reading
reading-first true h f = omega (arith, f refl)
reading-first false h f = omega arith

-- the budget grows with what reading can still take
pub budget-grows : (q : Point) {a b : ℕ} → a ≤ b → budget_at a q ≤ budget_at b q
unfolding budget_at
budget-grows q {a} {b} h = go (budget_of q)
  where
    go : (g : Budget) → in_all a g ≤ in_all b g
    go (fixed n) = omega arith
    go (waits n) = omega arith

-- the budgets along a promotion
promotion : (b : ℕ) (x : Tens) → b ≤ 2
    → (budget_at b (point_of (back x)) ≤ onward x)
    × (budget_at b (point_of (tens x + 1)) ≤ 5 + onward x)
    × (budget_at b (point_of (tens x + 2)) ≤ 4 + onward x)
    × (budget_at b (point_of (tens x + 3)) ≤ 3 + onward x)
    × (budget_at b (point_of (tens x + 4)) ≤ 2 + onward x)
    × (budget_at b (point_of (tens x + 5)) ≤ 1 + onward x)
unfolding budget_at tens back
promotion b two h = omega arith
promotion b three h = omega arith
promotion b four h = omega arith

-- the step of a port, other than its last at 19, where its own spin is the latest at 8
module _ (v : View) (copy : Bool) (c b : ℕ) where
  abbrev me : Port
  me = v.own

  abbrev a : ℕ
  a = reading (eqb me.value 1) copy

  -- a choice of points, within the same budget m
  either : {m : ℕ} (e : Bool) (i j : ℕ) → (e ≡ true → c + budget_at b (point_of i) ≤ m) → (e ≡ false → c + budget_at b (point_of j) ≤ m)
      → c + budget_at b (point_of (cond e i j)) ≤ m
  either {m} e i j = split (λ (n : ℕ). c + budget_at b (point_of n) ≤ m) e i j

  -- x1 where ACTIVE is 0
  unasked-spends : (x : Tens) → c ≤ 1 → c + budget_at b (point_of (unasked x v.k v.own).point) ≤ 5 + onward x
  unfolding unasked budget_at
  unasked-spends two h = omega arith
  unasked-spends three h = omega arith
  unasked-spends four h = omega arith

  -- 8: the value is 1, or the next reading takes less
  read-spends : Fee p8 copy c → b ≡ 1 → latest me me.work.own ≡ true
      → c + budget_at b (point_of (cond (eqb (read_spin me me.work.own) 1) 10 9)) ≤ 20 + a
  unfolding budget_at read_spin
  read-spends f r l =
      rw l
      (either (eqb me.value 1) 10 9
      (λ e. omega (arith, f.one, reading-some (eqb me.value 1) copy))
      (λ e. rw (e, r) (omega (arith, reading-first copy f.one (f.held refl)))))

  -- every point: the cost and the budget after the step are no more than the budget before it
  pub spends : (q : Point) → point_of me.point ≡ q → (q ≡ p19 → ⊥) → (q ≡ p8 → latest me me.work.own ≡ true)
      → Fee q copy c → Reads q a b → c + budget_at b (point_of (step q v).own.point) ≤ budget_at a q
  unfolding step touch_at budget_at
  spends none e n l f r = rw e (omega (arith, f.free refl))
  spends p0 e n l f r = rw e (omega (arith, f.free refl))
  spends p1 e n l f r =
      either (eqb me.status CS) 11 _ (λ u. omega arith)
      (λ u. either (eqb me.status EXIT) 13 2 (λ w. omega arith) (λ w. omega arith))
  spends p2 e n l f r =
      let z = f.free refl in
      either (up v) 12 3 (λ u. omega arith) (λ u. omega arith)
  spends p3 e n l f r = either (eqb me.go 0) 4 5 (λ u. omega arith) (λ u. omega arith)
  spends p4 e n l f r = omega arith
  spends p5 e n l f r = either (bit v) 20 6 (λ u. omega arith) (λ u. omega arith)
  spends p6 e n l f r = omega arith
  spends p8 e n l f r = read-spends f (r.read refl) (l refl)
  spends p9 e n l f r =
      let z = f.free refl in
      let s = r.looked refl in
      either (up v) 12 8 (λ u. omega arith) (λ u. omega arith)
  spends p10 e n l f r = omega arith
  spends p11 e n l f r = rw e (omega (arith, f.free refl))
  spends p12 e n l f r = omega arith
  spends p13 e n l f r = omega arith
  spends p14 e n l f r = either (bit v) 15 16 (λ u. omega arith) (λ u. omega arith)
  spends p15 e n l f r = omega arith
  spends p16 e n l f r = omega arith
  spends p17 e n l f r = omega arith
  spends p18 e n l f r = omega arith
  spends p19 e n l f r = absurd (n refl)
  spends (x0 x) e n l f r =
      let h = promotion b x r.bound in
      split (λ (i : ℕ). c + budget_at b (point_of (tens x + i)) ≤ 6 + onward x) (eqb v.word.taken 1) 4 1
      (λ u. omega arith)
      (λ u. omega arith)
  spends (x1 x) e n l f r =
      split (λ (p : Port). c + budget_at b (point_of p.point) ≤ 5 + onward x) (eqb v.active 0) _ _
      (λ u. unasked-spends x f.one)
      (λ u. omega (arith, promotion b x r.bound))
  spends (x2 x) e n l f r = omega (arith, promotion b x r.bound)
  spends (x3 x) e n l f r = omega (arith, promotion b x r.bound)
  spends (x4 x) e n l f r =
      let h = promotion b x r.bound in
      split (λ (p : Port). c + budget_at b (point_of p.point) ≤ 2 + onward x)
      (eqb v.word.taken 1 && ltb 0 v.word.spin)
      _
      _
      (λ u. omega arith)
      (λ u. omega arith)
  spends (x5 x) e n l f r = omega (arith, promotion b x r.bound)
