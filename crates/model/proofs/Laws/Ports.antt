-- What stands at every port after an event that is no step, and after a step.
use Rattle.std.specs.Prelude.{◌≡◌, refl, Bool, true, false, cond, ◌&&◌, List, ℕ, ◌<◌, eqb, length, get_or, set}
use Rattle.std.proofs.Common.{sym, ◌∙◌, ap, subst, arith, get_or-set_same, get_or-set_other, lt-length-set, eqb-true}
use Rattle.std.proofs.Math.Bool.{and-eq-true_iff}
use Rattle.std.proofs.lemmas.Bool.{false≢true, eqb-false, not-true}
use Rattle.std.proofs.Math.Decide.{dec_lt}
use Rattle.std.proofs.Math.ListN.{get_or-eq_default}
use Rattle.model.specs.declared.Port.{Port}
use Rattle.model.specs.declared.Table.{Table}
use Rattle.model.specs.declared.View.{View}
use Rattle.model.specs.Table.{room, no_port, port_at, put_port, latest, Sized}
use Rattle.model.specs.Points.{Tens, Point, none, p0, p1, p2, p3, p4, p5, p6, p8, p9, p10, p11, p12, p13, p14, p15, p16, p17, p18, p19, x0, x1, x2, x3, x4, x5, point_of, settled}
use Rattle.model.specs.Step.{with_value}
use Rattle.model.specs.Parts.Moves.{step}
use Rattle.model.specs.Parts.Charges.{touch_at}
use Rattle.model.specs.Parts.Steps.{touch_of, home_of, move_of, view_of, marks, marked, stepped}
use Rattle.model.proofs.Laws.Tests.{split}
use Rattle.model.proofs.Laws.Own.{home_at}

-- a record put at port k stands there, and leaves the other ports as they are
pub put-own : (t : Table) (k : ℕ) (p : Port) → Sized t → k < room → port_at (put_port t k p) k ≡ p
put-own t k p s h = get_or-set_same t.ports k p no_port (rw s.ports h)

pub put_other : (t : Table) (k j : ℕ) (p : Port) → (j ≡ k → ⊥) → port_at (put_port t k p) j ≡ port_at t j
put_other t k j p n = get_or-set_other t.ports k j p no_port n

-- the step of port k sets the latest spin of port j: k is at x5, and the seen spin is the latest of the seen owner, j
pub record Sets (t : Table) (k j : ℕ) : Type 0 where
  pub tens : Tens
  pub point : point_of (port_at t k).point ≡ x5 tens
  pub owner : (port_at t k).work.seenowner ≡ j
  pub spin : (port_at t k).work.seenspin ≡ (port_at t j).made
  pub made : (port_at t j).made ≡ 0 → ⊥

-- the test of that; what a step that sets a spin has in hand
unfoldable pub sets : Table → ℕ → ℕ → Bool
sets t k j = marks t k && eqb (home_of t k) j

only-x5 : (q : Point) (v : View) → (step q v).sets ≡ true → (x : Tens) × (q ≡ x5 x)
unfolding step
only-x5 none v e = absurd (false≢true e)
only-x5 p0 v e = absurd (false≢true e)
only-x5 p1 v e = absurd (false≢true e)
only-x5 p2 v e = absurd (false≢true e)
only-x5 p3 v e = absurd (false≢true e)
only-x5 p4 v e = absurd (false≢true e)
only-x5 p5 v e = absurd (false≢true e)
only-x5 p6 v e = absurd (false≢true e)
only-x5 p8 v e = absurd (false≢true e)
only-x5 p9 v e = absurd (false≢true e)
only-x5 p10 v e = absurd (false≢true e)
only-x5 p11 v e = absurd (false≢true e)
only-x5 p12 v e = absurd (false≢true e)
only-x5 p13 v e = absurd (false≢true e)
only-x5 p14 v e = absurd (false≢true e)
only-x5 p15 v e = absurd (false≢true e)
only-x5 p16 v e = absurd (false≢true e)
only-x5 p17 v e = absurd (false≢true e)
only-x5 p18 v e = absurd (false≢true e)
only-x5 p19 v e = absurd (false≢true e)
only-x5 (x0 x) v e = absurd (false≢true e)
only-x5 (x1 x) v e = absurd (false≢true e)
only-x5 (x2 x) v e = absurd (false≢true e)
only-x5 (x3 x) v e = absurd (false≢true e)
only-x5 (x4 x) v e = absurd (false≢true e)
only-x5 (x5 x) v e = (x, refl)

pub sets-only : (t : Table) (k j : ℕ) → sets t k j ≡ true → Sets t k j
unfolding sets move_of touch_of touch_at
sets-only t k j e =
    let w = (port_at t k).work in
    let a = (and-eq-true_iff _ (eqb (home_of t k) j)).0 e in
    let b = (and-eq-true_iff (move_of t k).sets _).0 a.0 in
    let x = only-x5 (point_of (port_at t k).point) (view_of t k) b.0 in
    let here : home_of t k ≡ j = eqb-true _ _ a.1 in
    let seen = subst (λ (h : ℕ). latest (port_at t h) w.seenspin ≡ true) here b.1 in
    let last = (and-eq-true_iff (eqb w.seenspin (port_at t j).made) _).0 seen in
    record {
      tens = x.0;
      point = x.1;
      owner = sym (home_at t k (x5 x.0) x.1) ∙ here;
      spin = eqb-true _ _ last.0;
      made = eqb-false _ _ (not-true _ last.1);
    }

-- changing the record at h, where b says so, as it is read at port j
change-at : (b : Bool) (ps : List Port) (h j : ℕ) (f : Port → Port) → (b && eqb h j ≡ true → j < length ps)
    → get_or (cond b (set ps h (f (get_or ps h no_port))) ps) j no_port ≡ cond (b && eqb h j) (f (get_or ps j no_port)) (get_or ps j no_port)
change-at false ps h j f l = refl
change-at true ps h j f l =
    split (λ (p : Port). get_or (set ps h (f (get_or ps h no_port))) j no_port ≡ p)
    (eqb h j)
    _
    _
    (λ e. subst (λ (i : ℕ). get_or (set ps i (f (get_or ps i no_port))) j no_port ≡ f (get_or ps j no_port)) (sym (eqb-true h j e))
    (get_or-set_same ps j _ no_port (l e)))
    (λ e. get_or-set_other ps h j _ no_port (λ q. eqb-false h j e (sym q)))

-- a port that has made a spin has a place in the list
made_inside : (t : Table) (j : ℕ) → ((port_at t j).made ≡ 0 → ⊥) → j < length t.ports
made_inside t j n = elim (dec_lt j (length t.ports)) [
  | yes l ↦ l
  | no l ↦ absurd (n (ap (λ (p : Port). p.made) (get_or-eq_default t.ports no_port (omega arith))))
]

-- what stands at port j after the step of port k, where p stands there once the settled record of k is put at k: p, with value 1 where the
-- step sets it
port-after : (t : Table) (k j : ℕ) (p : Port) → port_at (put_port t k (settled (move_of t k).own)) j ≡ p
    → port_at (stepped t k).table j ≡ cond (sets t k j) (with_value 1 p) p
unfolding stepped marked sets
port-after t k j p e =
    change-at (marks t k)
    (set t.ports k (settled (move_of t k).own))
    (home_of t k)
    j
    (with_value 1)
    (λ q. lt-length-set t.ports k _ (made_inside t j (sets-only t k j q).made))
    ∙ ap (λ (p : Port). cond (sets t k j) (with_value 1 p) p) e

-- at k its own record stands, settled, and at another port what stood there; with value 1 where the step sets it
pub own-after : (t : Table) (k : ℕ) → Sized t → k < room
    → port_at (stepped t k).table k ≡ cond (sets t k k) (with_value 1 (settled (move_of t k).own)) (settled (move_of t k).own)
own-after t k s h = port-after t k k _ (put-own t k _ s h)

pub other_after : (t : Table) (k j : ℕ) → (j ≡ k → ⊥)
    → port_at (stepped t k).table j ≡ cond (sets t k j) (with_value 1 (port_at t j)) (port_at t j)
other_after t k j n = port-after t k j _ (put_other t k j _ n)

-- the same in two cases: the step of port k leaves p at port j, or p with value 1
pub data Left (t : Table) (k j : ℕ) (p : Port) : Type 0 where
  unset : port_at (stepped t k).table j ≡ p → Left t k j p
  set_one : Sets t k j → port_at (stepped t k).table j ≡ with_value 1 p → Left t k j p

left : (t : Table) (k j : ℕ) (p : Port) → port_at (stepped t k).table j ≡ cond (sets t k j) (with_value 1 p) p → Left t k j p
left t k j p = go (sets t k j) refl
  where
    go : (b : Bool) → sets t k j ≡ b → port_at (stepped t k).table j ≡ cond b (with_value 1 p) p → Left t k j p
    go true q e = set_one (sets-only t k j q) e
    go false q e = unset e

pub own-left : (t : Table) (k : ℕ) → Sized t → k < room → Left t k k (settled (move_of t k).own)
own-left t k s h = left t k k _ (own-after t k s h)

pub other-left : (t : Table) (k j : ℕ) → (j ≡ k → ⊥) → Left t k j (port_at t j)
other-left t k j n = left t k j _ (other_after t k j n)

-- but for the value, p is what is left
pub left-rest : (t : Table) (k j : ℕ) (p : Port) → Left t k j p
    → port_at (stepped t k).table j ≡ with_value (port_at (stepped t k).table j).value p
left-rest t k j p (unset e) = rw e
left-rest t k j p (set_one w e) = rw e
