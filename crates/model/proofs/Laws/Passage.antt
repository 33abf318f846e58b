-- The passage limit: no passage costs more than 33 in either model, since no order raises the budget of a port, and each of its steps lowers the
-- budget by its cost.
use Rattle.std.specs.Prelude.{◌≡◌, refl, Bool, false, ◌&&◌, ◌||◌, ℕ, ◌+◌, ◌≤◌, ◌<◌, eqb}
use Rattle.std.proofs.Common.{sym, ◌∙◌, subst, le_refl}
use Rattle.std.proofs.Math.Path.{ap}
use Rattle.std.proofs.Math.Bool.{true, cond}
use Rattle.std.proofs.lemmas.Bool.{false≢true}
use mathlib.Core.List.{List, [], ◌∷◌}
use Rattle.std.proofs.Math.Decide.{ℕ_discrete}
use native.Mathlib.Omega.{arith}
use borrow.Author.Tests.{eqb-true, eqb-false, eq-eqb}
use Rattle.model.specs.declared.Port.{Port}
use Rattle.model.specs.declared.Table.{Table}
use Rattle.model.specs.declared.Outcome.{Outcome}
use Rattle.model.specs.declared.Answer.TheVariants.{Done}
use Rattle.model.specs.Table.{room, port_at, Sized}
use Rattle.model.specs.Points.{p19, point_of, settled}
use Rattle.model.specs.Event.{number_of, enter, stepping, crash, call_off, leave, ordered}
use Rattle.model.specs.Parts.Steps.{view_of, move_of, stepped}
use Rattle.model.specs.Run.{Order, answered, after, done, passage_cost}
use Rattle.model.proofs.Laws.Tests.{conjunct, split}
use Rattle.model.proofs.Laws.Cases.{Allowed, enters, crashes, calls_off, leaves, Stepped, Case, was_refused, was_ordered, was_stepped, cases, after-case}
use Rattle.model.proofs.Laws.Own.{number_of_point, number}
use Rattle.model.proofs.Laws.After.{after-sized}
use Rattle.model.proofs.Laws.Ports.{put-own, put_other, own-left, other-left, left-rest}
use Rattle.model.proofs.Laws.Life.{Life}
use Rattle.model.proofs.Laws.LifeAfter.{life-after}
use Rattle.model.proofs.Laws.Grants.{done-steps}
use Rattle.model.proofs.Laws.Budget.{budget_at, has_copy, budget_left, budget, FeeOf, budget-grows, spends}
use Rattle.model.proofs.Laws.Fees.{own_read, fees, own-reads, other-reads}

-- a passage of port k ends with the order: its next crash, or its step at 19
abbrev ends : ℕ → Table → Order → Bool
ends k t o = done k crash t o || (done k stepping t o && eqb (port_at t k).point 19)

-- a step of port k, other than its last at 19, lowers its budget by what it costs
step-spends : (t : Table) (k : ℕ) → Sized t → k < room → Life (port_at t k) → ((port_at t k).point ≡ 19 → ⊥)
    → {c : ℕ} → FeeOf t k c
    → c + budget (stepped t k).table k ≤ budget t k
unfolding settled move_of view_of number_of_point
step-spends t k s h l n {c} f =
    rw (ap (λ (p : Port). p.point) (left-rest t k k _ (own-left t k s h)))
    (spends (view_of t k) (has_copy t k) c _ (point_of (port_at t k).point) refl
    (λ e. n (number _ p19 l.point e))
    (own_read t k l)
    f
    (own-reads t k s h l))

-- an event that is no step, and no crash, does not raise the budget of its port
ordered-budget : (e : ℕ) (p : Port) (copy : Bool) → (e ≡ crash → ⊥) → Allowed e p → budget_left (ordered e p) copy ≤ budget_left p copy
unfolding budget_at
ordered-budget e p copy n (enters _ z _ q) = rw (q, z) (le_refl _)
ordered-budget e p copy n (crashes z _ _) = absurd (n z)
ordered-budget e p copy n (calls_off _ _ q) = rw q (le_refl _)
ordered-budget e p copy n (leaves _ z q) = rw (q, z) (le_refl _)

-- what an order that is done says of its port, event and answer, and the other way round
done-facts : (k e : ℕ) (t : Table) (o : Order) → done k e t o ≡ true
    → (o.port ≡ k) × (o.event ≡ e) × (number_of (answered t o).answer ≡ 0)
unfolding done
done-facts k e t o h =
    let all = conjunct (eqb o.port k) (eqb o.event e ∷ eqb (number_of (answered t o).answer) 0 ∷ []) h in
    (eqb-true _ _ (all 0), eqb-true _ _ (all 1), eqb-true _ _ (all 2))

is-done : (k e : ℕ) (t : Table) (o : Order) → k ≡ o.port → o.event ≡ e → (answered t o).answer ≡ Done → done k e t o ≡ true
unfolding done
is-done k e t o p q a = rw (p, eq-eqb o.port o.port refl, eq-eqb _ _ q, a)

module _ (k : ℕ) (t : Table) (o : Order) (s : Sized t) (l : (j : ℕ) → Life (port_at t j)) where
  -- an order of another port does not raise the budget
  other-budget : (k ≡ o.port → ⊥) → budget (after t o) k ≤ budget t k
  other-budget n =
      after-case t o (λ (u : Table). budget u k ≤ budget t k) (le_refl _)
      (λ c. rw (put_other t o.port k (ordered o.event (port_at t o.port)) n) (le_refl _))
      (λ c.
      rw (ap (λ (p : Port). p.point) (left-rest t o.port k _ (other-left t o.port k n)))
      (budget-grows (point_of (port_at t k).point) (other-reads t o.port k n s c.sound c.port)))

  -- nor does one that is no step of port k and does not end its passage
  unstepped-budget : done k stepping t o ≡ false → ends k t o ≡ false → budget (after t o) k ≤ budget t k
  unstepped-budget d e = elim (ℕ_discrete k o.port) [ yes p ↦ own p (cases t o) | no p ↦ other-budget p ]
    where
      own : k ≡ o.port → Case t o → budget (after t o) k ≤ budget t k
      own p (was_refused c) = rw c.kept (le_refl (budget t k))
      own p (was_ordered c) =
          let runs : o.event ≡ crash → ⊥ = λ q. false≢true (sym (rw (is-done k crash t o p q c.answer) at e)) in
          rw (c.table, p, put-own t o.port (ordered o.event (port_at t o.port)) s c.fits)
          (ordered-budget o.event (port_at t o.port) (has_copy t o.port) runs c.allowed)
      own p (was_stepped c) = absurd (false≢true (sym d ∙ is-done k stepping t o p c.event c.answer))

  -- a step of port k ends its passage at 19
  step-ends : Stepped t o → k ≡ o.port → ends k t o ≡ eqb (port_at t k).point 19
  unfolding done
  step-ends c p = rw (c.answer, p, c.event, eq-eqb o.port o.port refl)

  -- every order: what it costs port k, and what is left of its budget unless its passage ends, is no more than the budget
  pays : (f : Outcome → ℕ) → FeeOf t k (f (stepped t k))
      → cond (done k stepping t o) (f (answered t o)) 0 + cond (ends k t o) 0 (budget (after t o) k) ≤ budget t k
  unfolding budget_at
  pays f fee =
      split (λ (n : ℕ). n + cond (ends k t o) 0 (budget (after t o) k) ≤ budget t k) (done k stepping t o) _ 0 steps
      (λ d. split (λ (n : ℕ). 0 + n ≤ budget t k) (ends k t o) 0 _ (λ e. omega arith) (λ e. omega (arith, unstepped-budget d e)))
    where
      steps : done k stepping t o ≡ true → f (answered t o) + cond (ends k t o) 0 (budget (after t o) k) ≤ budget t k
      steps d =
          let c = done-steps t o k d in
          let p = (done-facts k stepping t o d).0 in
          rw (step-ends c (sym p))
          (subst (λ (u : Outcome). f u + cond (eqb (port_at t k).point 19) 0 (budget u.table k) ≤ budget t k)
          (sym (c.outcome ∙ ap (stepped t) p))
          (split (λ (n : ℕ). f (stepped t k) + n ≤ budget t k) (eqb (port_at t k).point 19) 0 _
          (λ e. rw (eqb-true (port_at t k).point 19 e) (omega (arith, fee.one)))
          (λ e. step-spends t k s (subst (λ (j : ℕ). j < room) p c.fits) (l k) (eqb-false _ _ e) fee)))

-- E and X leave their port at 1
started : (t : Table) (k e : ℕ) (o : Order) → Sized t → (e ≡ stepping → ⊥) → (e ≡ call_off → ⊥) → (e ≡ leave → ⊥) → done k e t o ≡ true
    → (port_at (after t o) k).point ≡ 1
started t k e o s n m i d = go (cases t o)
  where
    facts : (o.port ≡ k) × (o.event ≡ e) × (number_of (answered t o).answer ≡ 0)
    facts = done-facts k e t o d

    at_one : Allowed o.event (port_at t o.port) → (ordered o.event (port_at t o.port)).point ≡ 1
    at_one (enters _ _ _ q) = rw q
    at_one (crashes _ _ q) = rw q
    at_one (calls_off q _ _) = absurd (m (sym facts.1 ∙ q))
    at_one (leaves q _ _) = absurd (i (sym facts.1 ∙ q))

    go : Case t o → (port_at (after t o) k).point ≡ 1
    go (was_refused c) = absurd (c.answer facts.2)
    go (was_ordered c) =
        rw (c.table, ← facts.0, put-own t o.port (ordered o.event (port_at t o.port)) s c.fits) (at_one c.allowed)
    go (was_stepped c) = absurd (n (sym facts.1 ∙ c.event))

starts : (t : Table) (k : ℕ) (o : Order) → Sized t → (done k enter t o || done k crash t o) ≡ true → (port_at (after t o) k).point ≡ 1
starts t k o s = go (done k enter t o) (done k crash t o) (started t k enter o s (omega arith) (omega arith) (omega arith))
    (started t k crash o s (omega arith) (omega arith) (omega arith))
  where
    go : (a b : Bool) → (a ≡ true → (port_at (after t o) k).point ≡ 1) → (b ≡ true → (port_at (after t o) k).point ≡ 1)
        → (a || b) ≡ true → (port_at (after t o) k).point ≡ 1
    go true b f g e = f e
    go false b f g e = g e

-- no more of a rest that counts only where the passage does not end
unless : (b : Bool) {x y : ℕ} → x ≤ y → cond b 0 x ≤ cond b 0 y
unless true h = le_refl 0
unless false h = h

-- in a model in which every step's fee is paid from the budget
module _ (k : ℕ) (cost : Outcome → ℕ) (fee : (t : Table) → Life (port_at t k) → FeeOf t k (cost (stepped t k))) where
  -- what a passage costs is no more than the budget
  within-budget : (t : Table) (os : List Order) → Sized t → ((j : ℕ) → Life (port_at t j)) → passage_cost cost k t os ≤ budget t k
  unfolding passage_cost
  within-budget t [] s l = omega arith
  within-budget t (o ∷ os) s l =
      let rest = unless (ends k t o) (within-budget (after t o) os (after-sized t o s) (life-after t o s l)) in
      omega (arith, rest, pays k t o s l cost (fee t (l k)))

  -- which is 33 where a passage starts
  limit : (t : Table) (o : Order) (os : List Order) → Sized t → ((j : ℕ) → Life (port_at t j))
      → (done k enter t o || done k crash t o) ≡ true → passage_cost cost k (after t o) os ≤ 33
  unfolding budget_at
  limit t o os s l d = rw (starts t k o s d) at (within-budget (after t o) os (after-sized t o s) (life-after t o s l))

-- after an E or X that is done at port k, until k's step at 19 or its next X, k's steps cost no more than 33 in either model
pub passage : (t : Table) (k : ℕ) (o : Order) (os : List Order) → Sized t → ((j : ℕ) → Life (port_at t j))
    → (done k enter t o || done k crash t o) ≡ true
    → (passage_cost (λ u. u.cached) k (after t o) os ≤ 33) × (passage_cost (λ u. u.distributed) k (after t o) os ≤ 33)
passage t k o os s l d = (
  limit k (λ u. u.cached) (λ t l. (fees t k l).0) t o os s l d,
  limit k (λ u. u.distributed) (λ t l. (fees t k l).1) t o os s l d,
)
