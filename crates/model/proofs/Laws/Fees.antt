-- What a step costs its port in both models, and what it does to the copies of its port's own spin and of another's.
use Rattle.std.specs.Prelude.{◌≡◌, Bool, cond, ℕ, ◌≤◌, ◌<◌, eqb}
use Rattle.std.proofs.Math.Path.{refl, sym, ap}
use Rattle.std.proofs.Common.{◌∙◌, subst, le_refl, lt_of_lt_of_le, arith}
use Rattle.std.proofs.Math.Bool.{true, false, and-true, not-not}
use Rattle.std.proofs.Math.Decide.{ℕ_discrete}
use borrow.Author.Tests.{eq-eqb, ne_eqb}
use Rattle.model.specs.declared.Work.{Work}
use Rattle.model.specs.declared.Port.{Port}
use Rattle.model.specs.declared.Copies.{Copies}
use Rattle.model.specs.declared.Shared.{Shared}
use Rattle.model.specs.declared.Table.{Table}
use Rattle.model.specs.declared.Touch.{Touch}
use Rattle.model.specs.declared.Charge.{Charge}
use Rattle.model.specs.declared.Outcome.{Outcome}
use Rattle.model.specs.declared.Cell.{Cell}
use Rattle.model.specs.declared.Cell.TheVariants.{Nothing, Status, Go, Spin, Active, Lock, CandidateGo, SeenSpin}
use Rattle.model.specs.declared.Kind.{Kind}
use Rattle.model.specs.declared.Kind.TheVariants.{Read, Write, Add, Swap}
use Rattle.model.specs.declared.Kind.TheVariants as Kinds
use Rattle.model.specs.Table.{room, port_at, copies_at, latest, Sized}
use Rattle.model.specs.Mask.{stands}
use Rattle.model.specs.Points.{Tens, Point, none, p0, p1, p2, p3, p4, p5, p6, p8, p9, p10, p11, p12, p13, p14, p15, p16, p17, p18, p19, x0, x1, x2, x3, x4, x5, point_of}
use Rattle.model.specs.Good.{good}
use Rattle.model.specs.Event.{number_of, stepping, refusal, carried, event}
use Rattle.model.specs.Parts.Moves.{step}
use Rattle.model.specs.Parts.Charges.{untouched, touch_at, home, cached, charge, old, distributed}
use Rattle.model.specs.Parts.Steps.{touch_of, home_of, view_of, move_of, charge_of, stepped}
use Rattle.model.proofs.Laws.Stepped.{charge_at, carried-parts}
use Rattle.model.proofs.Laws.Tests.{split}
use Rattle.model.proofs.Laws.Mask.{joined-own}
use Rattle.model.proofs.Laws.Rules.{shared-rules}
use Rattle.model.proofs.Laws.Own.{home_at}
use Rattle.model.proofs.Laws.After.{step_after, copies-home, copies-other, home_below}
use Rattle.model.proofs.Laws.Ports.{Sets, sets, other_after}
use Rattle.model.proofs.Laws.Life.{Life, row_at, own-latest}
use Rattle.model.proofs.Laws.Changes.{step_kept}
use Rattle.model.proofs.Laws.Budget.{reading, reading-some, reading-most, reading-copy, has_copy, to_read, FeeOf, Reads}

-- no touch costs more than 1
kind-cost : (a : Kind) (k m : ℕ) → cached a k m ≤ 1
kind-cost Kinds.Nothing k m = omega arith
kind-cost Read k m = split (λ (n : ℕ). n ≤ 1) (stands m k) 0 1 (λ e. omega arith) (λ e. omega arith)
kind-cost Write k m = omega arith
kind-cost Add k m = omega arith
kind-cost Swap k m = omega arith

other-cost : (i k : ℕ) → cond (eqb i k) 0 1 ≤ 1
other-cost i k = split (λ (n : ℕ). n ≤ 1) (eqb i k) 0 1 (λ e. omega arith) (λ e. omega arith)

cell-cost : (c : Cell) (k : ℕ) (w : Work) → distributed c k w ≤ 1
cell-cost Nothing k w = omega arith
cell-cost Status k w = omega arith
cell-cost Go k w = omega arith
cell-cost Spin k w = omega arith
cell-cost Active k w = omega arith
cell-cost Lock k w = omega arith
cell-cost CandidateGo k w = other-cost w.candidate k
cell-cost SeenSpin k w = other-cost w.seenowner k

pub charge-cost : (u : Touch) (k : ℕ) (w : Work) (q : Port) (s : Shared) (c : Copies)
    → ((charge u k w q s c).cached ≤ 1) × ((charge u k w q s c).distributed ≤ 1)
unfolding charge
charge-cost u k w q s c =
    split (λ (r : Charge). (r.cached ≤ 1) × (r.distributed ≤ 1)) (old u.cell w q) _ _
    (λ e. (omega arith, cell-cost u.cell k w))
    (λ e. (kind-cost u.kind k _, cell-cost u.cell k w))

-- nor does a step, an event that is carried out, nor any event
step-cost : (t : Table) (k : ℕ) → ((stepped t k).cached ≤ 1) × ((stepped t k).distributed ≤ 1)
unfolding stepped charge_of
step-cost t k = charge-cost _ _ _ _ _ _

abbrev pub Small : Outcome → Type 0
Small o = (o.cached ≤ 1) × (o.distributed ≤ 1)

pub nothing : (0 ≤ 1) × (0 ≤ 1)
nothing = (omega arith, omega arith)

pub carried-cost : (t : Table) (k e : ℕ) → Small (carried t k e)
carried-cost t k e = rw (carried-parts t k e) (split Small (eqb e stepping) _ _ (λ s. step-cost t k) (λ s. nothing))

pub event-cost : (t : Table) (k e : ℕ) → ((event t k e).cached ≤ 1) × ((event t k e).distributed ≤ 1)
unfolding event
event-cost t k e = split Small (eqb (number_of (refusal t k e)) 0) _ _ (λ n. carried-cost t k e) (λ n. nothing)

-- the charge of a step of port k at point q
module _ (t : Table) (k : ℕ) where
  charge-at : (q : Point) → point_of (port_at t k).point ≡ q → charge_of t k ≡ charge_at t k q
  unfolding charge_of touch_of home_of view_of move_of
  charge-at q e = ap (charge_at t k) e

  -- it costs at most 1 in either model, and nothing where the step touches no word
  cost : ((charge_of t k).cached ≤ 1) × ((charge_of t k).distributed ≤ 1)
  cost = rw (charge-at (point_of (port_at t k).point) refl) (charge-cost (touch_at (point_of (port_at t k).point)) k _ _ _ _)

  free : touch_at (point_of (port_at t k).point) ≡ untouched → ((charge_of t k).cached ≡ 0) × ((charge_of t k).distributed ≡ 0)
  unfolding charge
  free e = rw (charge-at (point_of (port_at t k).point) refl, e) (refl, refl)

  module _ (l : Life (port_at t k)) where
    -- at 8 the own spin is the latest
    pub own_read : point_of (port_at t k).point ≡ p8 → latest (port_at t k) (port_at t k).work.own ≡ true
    own_read e =
        let o = own-latest l (row_at p8 l e) in
        rw (eq-eqb _ _ o.0, ne_eqb (port_at t k).made 0 (omega arith))

    -- so reading it costs 1 in the cached model only where the port has no copy, nothing in the distributed model, and gives it a copy
    read-charge : point_of (port_at t k).point ≡ p8
        → ((charge_of t k).cached ≡ cond (has_copy t k) 0 1)
        × ((charge_of t k).distributed ≡ 0)
        × (stands (charge_of t k).copies.spin k ≡ true)
    unfolding charge touch_at step
    read-charge e = rw (charge-at p8 e, own_read e) (refl, refl, joined-own (copies_at t k).spin k)

    -- the fees of both models
    pub fees : FeeOf t k (stepped t k).cached × FeeOf t k (stepped t k).distributed
    fees =
        rw ((step_after t k).cached, (step_after t k).distributed) (
          record { one = cost.0; free = λ e. (free e).0; held = λ e h. (read-charge e).0 ∙ rw h },
          record { one = cost.1; free = λ e. (free e).1; held = λ e h. (read-charge e).1 },
        )

-- the copy sets of the port whose word a step touches
touched-copies : (t : Table) (k j : ℕ) → Sized t → j < room → home_of t k ≡ j → copies_at (stepped t k).table j ≡ (charge_of t k).copies
touched-copies t k j s h e =
    subst (λ (i : ℕ). copies_at (stepped t k).table i ≡ (charge_of t k).copies) e (copies-home t k s (rw e h))

-- what reading the own spin can still take after a step of its port: after a look at the flag as before it, and after a reading no more than 1
pub own-reads : (t : Table) (k : ℕ) → Sized t → k < room → Life (port_at t k)
    → Reads (point_of (port_at t k).point) (to_read t k) (to_read (stepped t k).table k)
unfolding touch_at charge step
own-reads t k s h l = record { bound = reading-most _ _; looked = looked; read = read }
  where
    looked : point_of (port_at t k).point ≡ p9 → to_read (stepped t k).table k ≡ to_read t k
    looked e =
        let unmade : (port_at t k).point ≡ 4 → ⊥ = λ n. let z : ◌≡◌ {A = ℕ} 0 1 = cc (ap point_of n) in omega arith in
        let unset : Sets t k k → ⊥ = λ w. let z : ◌≡◌ {A = ℕ} 0 1 = cc w.point in omega arith in
        let value = (step_kept t k s h l.point).value unmade unset in
        let copies = touched-copies t k k s h (home_at t k p9 e) ∙ ap (λ (c : Charge). c.copies) (charge-at t k p9 e) in
        rw (value, copies)

    read : point_of (port_at t k).point ≡ p8 → to_read (stepped t k).table k ≡ 1
    read e = rw (touched-copies t k k s h (home_at t k p8 e), (read-charge t k l e).2) (reading-copy _)

-- whose words the step at point q touches: only its port's own, GO of its candidate, or its seen owner's seen spin
data Reach (q : Point) : Type 0 where
  near : ((k : ℕ) (w : Work) → home (touch_at q).cell k w ≡ k) → Reach q
  names : (x : Tens) → q ≡ x2 x → Reach q
  sees : (x : Tens) → q ≡ x5 x → Reach q

reach : (q : Point) → Reach q
unfolding touch_at
reach none = near (λ k w. refl)
reach p0 = near (λ k w. refl)
reach p1 = near (λ k w. refl)
reach p2 = near (λ k w. refl)
reach p3 = near (λ k w. refl)
reach p4 = near (λ k w. refl)
reach p5 = near (λ k w. refl)
reach p6 = near (λ k w. refl)
reach p8 = near (λ k w. refl)
reach p9 = near (λ k w. refl)
reach p10 = near (λ k w. refl)
reach p11 = near (λ k w. refl)
reach p12 = near (λ k w. refl)
reach p13 = near (λ k w. refl)
reach p14 = near (λ k w. refl)
reach p15 = near (λ k w. refl)
reach p16 = near (λ k w. refl)
reach p17 = near (λ k w. refl)
reach p18 = near (λ k w. refl)
reach p19 = near (λ k w. refl)
reach (x0 x) = near (λ k w. refl)
reach (x1 x) = near (λ k w. refl)
reach (x2 x) = names x refl
reach (x3 x) = near (λ k w. refl)
reach (x4 x) = near (λ k w. refl)
reach (x5 x) = sees x refl

-- the step of port r at another port k: it touches the copies of k's latest spin only where it sets that spin
module _ (t : Table) (r k : ℕ) (n : k ≡ r → ⊥) where
  charge-spin : sets t r k ≡ false → home_of t r ≡ k → (charge_of t r).copies.spin ≡ (copies_at t k).spin
  unfolding sets move_of touch_of charge touch_at step
  charge-spin e h = go (reach (point_of (port_at t r).point))
    where
      go : Reach (point_of (port_at t r).point) → (charge_of t r).copies.spin ≡ (copies_at t k).spin
      go (near f) = absurd (n (sym h ∙ home_at t r _ refl ∙ f r (port_at t r).work))
      go (names x q) = rw (charge-at t r (x2 x) q, sym (home_at t r (x2 x) q) ∙ h)
      go (sees x q) =
          let older : latest (port_at t k) (port_at t r).work.seenspin ≡ false = simp (q, h, eq-eqb k k refl, and-true, not-not) at e in
          rw (charge-at t r (x5 x) q, sym (home_at t r (x5 x) q) ∙ h, older)

  spin-kept : Sized t → good t ≡ true → r < t.shared.d → sets t r k ≡ false
      → (copies_at (stepped t r).table k).spin ≡ (copies_at t k).spin
  spin-kept s g l e = elim (ℕ_discrete k (home_of t r)) [
    | yes h ↦
        let fits : k < room = rw h (lt_of_lt_of_le (home_below t r g l) (shared-rules t g).fits) in
        ap (λ (c : Copies). c.spin) (touched-copies t r k s fits (sym h)) ∙ charge-spin e (sym h)
    | no h ↦ ap (λ (c : Copies). c.spin) (copies-other t r k h)
  ]

  -- so it does not raise what reading that spin can still take: where it sets the spin, the value is 1
  pub other-reads : Sized t → good t ≡ true → r < t.shared.d → to_read (stepped t r).table k ≤ to_read t k
  unfolding reading
  other-reads s g l = go (sets t r k) refl
    where
      go : (b : Bool) → sets t r k ≡ b → to_read (stepped t r).table k ≤ to_read t k
      go true e = rw (other_after t r k n, e) (reading-some (eqb (port_at t k).value 1) (has_copy t k))
      go false e = rw (spin-kept s g l e, other_after t r k n, e) (le_refl (to_read t k))
