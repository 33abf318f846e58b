-- Exclusion: at most one port has STATUS CS, only the port's own step at 13 takes it away, and a port that crashes with it is inside again after its
-- next step.
use Rattle.std.specs.Prelude.{◌≡◌, refl, true, false, not, ◌&&◌, ℕ, ◌<◌}
use Rattle.std.proofs.Common.{sym, ◌∙◌, ap, inl, inr, true≢false, lt_of_lt_of_le, arith}
use Rattle.std.proofs.Math.Bool.{and-eq-true_iff, and-false}
use mathlib.Core.List.{List, [], ◌∷◌}
use Rattle.std.proofs.Math.Dec.{eqb}
use borrow.Author.Tests.{eq-eqb, ne_eqb, lt-leb, not-true}
use Rattle.model.specs.declared.Port.{Port}
use Rattle.model.specs.declared.Table.{Table}
use Rattle.model.specs.declared.Outcome.{Outcome}
use Rattle.model.specs.declared.Answer.TheVariants.{Done}
use Rattle.model.specs.Table.{CS, no_work, port_at, put_port, Sized}
use Rattle.model.specs.Points.{p0, p1, point_of, one_of, settled}
use Rattle.model.specs.Good.{good}
use Rattle.model.specs.Cost.{free}
use Rattle.model.specs.Step.{at, with_value, with_work}
use Rattle.model.specs.Event.{stepping, crash, first_of, refusals, refusal, ordered, event}
use Rattle.model.specs.Parts.Moves.{step}
use Rattle.model.specs.Parts.Steps.{stepped}
use Rattle.model.specs.Run.{Order, order, after, ran, done, steps_at, stepless}
use Rattle.model.proofs.Laws.Stepped.{carried-parts}
use Rattle.model.proofs.Laws.Rules.{shared-rules}
use Rattle.model.proofs.Laws.Grants.{stepped-done}
use Rattle.model.proofs.Laws.Cases.{Allowed, enters, crashes, calls_off, leaves, Stepped, after-case}
use Rattle.model.proofs.Laws.Own.{move_at}
use Rattle.model.proofs.Laws.After.{after-sized}
use Rattle.model.proofs.Laws.Ports.{put-own, own-left, left-rest}
use Rattle.model.proofs.Laws.Life.{Critical, row_at, critical-at}
use Rattle.model.proofs.Laws.Changes.{step_kept, ordered-rest, other-rest}
use Rattle.model.proofs.Laws.Holding.{Safe, each-port, busy-below, safe-after}

-- a port with STATUS CS owns the word, so there is at most one
owner-critical : (t : Table) → Safe t → (k : ℕ) → (port_at t k).status ≡ CS → t.shared.word.owner ≡ k
owner-critical t h k e =
    let c = (h.life k).critical e in
    (h.set k (record { status = omega arith; some = c.0 }) c.1).owner

pub one-critical : (t : Table) → Safe t → (j k : ℕ) → (port_at t j).status ≡ CS → (port_at t k).status ≡ CS → j ≡ k
one-critical t h j k d e = sym (owner-critical t h j d) ∙ owner-critical t h k e

-- STATUS or point of port k, f of its record, is n and stays n by an order, where each event that is no step leaves it so, and the step of k itself
-- given Q: the orders of other ports change only the latest value
order-keeps : (t : Table) (o : Order) → Sized t → (f : Port → ℕ) (n : ℕ) (Q : ℕ → Type 0)
    → ((p : Port) (a : ℕ) → f (with_value a p) ≡ f p)
    → ((e : ℕ) (p : Port) → Allowed e p → f p ≡ n → f (ordered e p) ≡ n)
    → (Stepped t o → f (port_at t o.port) ≡ n → Q o.port → f (port_at (stepped t o.port).table o.port) ≡ n)
    → (k : ℕ) → f (port_at t k) ≡ n → Q k → f (port_at (after t o) k) ≡ n
order-keeps t o z f n Q unvalued Ordered-keeps stepped-keeps =
    each-port (λ k. f (port_at t k) ≡ n → Q k → f (port_at (after t o) k) ≡ n) o.port
    (λ e q.
    after-case t o (λ (u : Table). f (port_at u o.port) ≡ n) e
    (λ c. rw (put-own t o.port (ordered o.event (port_at t o.port)) z c.fits) (Ordered-keeps _ _ c.allowed e))
    (λ c. stepped-keeps c e q))
    (λ k m e q. ap f (other-rest t o k m) ∙ unvalued _ _ ∙ e)

-- a port keeps STATUS CS but for its own step at 13: with that STATUS it is at 1, 11 or 13, and at 11 there is no step
pub keeps-critical : (t : Table) (k : ℕ) (o : Order) → Sized t → Safe t → (port_at t k).status ≡ CS
    → steps_at k (13 ∷ []) t o ≡ false → (port_at (after t o) k).status ≡ CS
unfolding steps_at one_of
keeps-critical t k o z h =
    order-keeps t o z (λ p. p.status) CS (λ j. steps_at j (13 ∷ []) t o ≡ false) (λ p a. refl)
    (λ e p a q. ap (λ (p : Port). p.status) (ordered-rest e p a) ∙ q)
    (λ c e n. go c e n (critical-at (h.life o.port) e))
    k
  where
    go : Stepped t o → (port_at t o.port).status ≡ CS → steps_at o.port (13 ∷ []) t o ≡ false
        → Critical (port_at t o.port).point → (port_at (stepped t o.port).table o.port).status ≡ CS
    go c e n (inl q) =
        let still = (step_kept t o.port z c.fits (h.life o.port).point).status in
        still (omega arith) (omega arith) (omega arith) (omega arith) ∙ e
    go c e n (inr (inl q)) = absurd (c.outside q)
    go c e n (inr (inr q)) = absurd (true≢false (rw (stepped-done t o c, eq-eqb _ 13 q) at n))

-- a crash and a step at 1 are carried out
module _ (t : Table) (k : ℕ) (g : good t ≡ true) (l : k < t.shared.d) where
  crash-carried : ((port_at t k).point ≡ 0 → ⊥) → event t k crash ≡ free Done (put_port t k (at 1 (with_work no_work (port_at t k))))
  unfolding event refusal refusals first_of ordered
  crash-carried n = rw (carried-parts t k crash, g, lt-leb t.shared.d k l, ne_eqb (port_at t k).point 0 n)

  step-carried : (port_at t k).point ≡ 1 → event t k stepping ≡ stepped t k
  unfolding event refusal refusals first_of
  step-carried e = rw (carried-parts t k stepping, g, lt-leb t.shared.d k l, e)

-- an order that is no step of a port leaves it at 1
ordered-one : (e : ℕ) (p : Port) → Allowed e p → p.point ≡ 1 → (ordered e p).point ≡ 1
ordered-one e p (enters _ n _ _) q = absurd (omega arith)
ordered-one e p (crashes _ _ r) q = rw r
ordered-one e p (calls_off _ _ r) q = rw r q
ordered-one e p (leaves _ n _) q = absurd (omega arith)

stays-one : (t : Table) (o : Order) → Sized t → (k : ℕ) → (port_at t k).point ≡ 1 → (eqb o.port k && eqb o.event stepping) ≡ false
    → (port_at (after t o) k).point ≡ 1
stays-one t o z =
    order-keeps t o z (λ p. p.point) 1 (λ k. (eqb o.port k && eqb o.event stepping) ≡ false) (λ p a. refl) ordered-one
    (λ c e n. absurd (true≢false (rw (eq-eqb o.port o.port refl, eq-eqb o.event stepping c.event) at n)))

-- in a good and safe table, port k is at 1 with STATUS CS
record Crashed (t : Table) (k : ℕ) : Type 0 where
  sized : Sized t
  sound : good t ≡ true
  safe : Safe t
  point : (port_at t k).point ≡ 1
  status : (port_at t k).status ≡ CS

-- the next step of such a port reads CS and goes to 11
crashed-step : (t : Table) (k : ℕ) → Crashed t k → (port_at (after t (order k stepping)) k).point ≡ 11
unfolding settled step
crashed-step t k c =
    let below = busy-below t k c.sized c.sound (omega arith) in
    let fits = lt_of_lt_of_le below (shared-rules t c.sound).fits in
    ap (λ (u : Outcome). (port_at u.table k).point) (step-carried t k c.sound below c.point)
    ∙ ap (λ (p : Port). p.point) (left-rest t k k _ (own-left t k c.sized fits))
    ∙ rw (move_at t k p1 (ap point_of c.point), eq-eqb _ CS c.status)

module _ (good-after : (t : Table) (o : Order) → Sized t → good t ≡ true → good (after t o) ≡ true) where
  -- a crash with STATUS CS leaves such a port, and so it stays while it makes no step
  crash-critical : (t : Table) (k : ℕ) → Sized t → Safe t → good t ≡ true → (port_at t k).status ≡ CS → Crashed (after t (order k crash)) k
  crash-critical t k z h g e =
      let busy : (port_at t k).point ≡ 0 → ⊥ = λ q. let r = row_at p0 (h.life k) (ap point_of q) in omega arith in
      let below = busy-below t k z g busy in
      let fits = lt_of_lt_of_le below (shared-rules t g).fits in
      let now = ap (λ (u : Outcome). port_at u.table k) (crash-carried t k g below busy) ∙ put-own t k _ z fits in
      record {
        sized = after-sized t (order k crash) z;
        sound = good-after t (order k crash) z g;
        safe = safe-after t (order k crash) z h;
        point = ap (λ (p : Port). p.point) now;
        status = ap (λ (p : Port). p.status) now ∙ e;
      }

  crashed-ran : (t : Table) (k : ℕ) (os : List Order) → Crashed t k → stepless k os ≡ true → Crashed (ran t os) k
  unfolding ran stepless steps_at one_of
  crashed-ran t k [] c e = c
  crashed-ran t k (o ∷ os) c e =
      let both = (and-eq-true_iff (not (eqb o.port k && eqb o.event stepping)) (stepless k os)).0 e in
      crashed-ran (after t o) k os
      (record {
        sized = after-sized t o c.sized;
        sound = good-after t o c.sized c.sound;
        safe = safe-after t o c.sized c.safe;
        point = stays-one t o c.sized k c.point (not-true _ both.0);
        status = keeps-critical t k o c.sized c.safe c.status (rw (c.point, and-false (done k stepping t o)));
      })
      both.1

  -- a port that crashes with STATUS CS is inside after its next step, whatever orders come between
  pub returns-inside : (t : Table) (k : ℕ) (os : List Order) → Sized t → Safe t → good t ≡ true → (port_at t k).status ≡ CS
      → stepless k os ≡ true → (port_at (after (ran (after t (order k crash)) os) (order k stepping)) k).point ≡ 11
  returns-inside t k os z h g e s = crashed-step _ k (crashed-ran _ k os (crash-critical t k z h g e) s)
