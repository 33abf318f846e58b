-- On a good table the orders of a run whose check has been paid are the events.
use Rattle.std.specs.Prelude.{◌≡◌, Bool, cond, not, ℕ, ◌≤◌, eqb, leb}
use Rattle.std.proofs.Math.Path.{refl}
use Rattle.std.proofs.Math.Bool.{true, false}
use borrow.Author.Tests.{leb-false, le-leb, lt-ltb}
use Rattle.model.specs.declared.Table.{Table}
use Rattle.model.specs.declared.Outcome.{Outcome}
use Rattle.model.specs.declared.Answer.TheVariants.{BadTable, NoSuchPort}
use Rattle.model.specs.Table.{Sized, port_at, size_good}
use Rattle.model.specs.Good.{whole, good}
use Rattle.model.specs.Cost.{free}
use Rattle.model.specs.Event.{number_of, first_of, refusals, refusal, stepping, event}
use Rattle.model.specs.Paid.{placed, paid_answer, paid_event}
use Rattle.model.proofs.Laws.Tests.{split}
use Rattle.model.proofs.Laws.Stepped.{carried-parts}
use Rattle.model.proofs.Laws.Rules.{shared-rules, port-rules}
use Rattle.model.proofs.Laws.After.{put-sized, step-sized}
use Rattle.model.proofs.Laws.Fees.{Small, nothing, carried-cost}

-- such an order keeps the lengths
pub paid-sized : (t : Table) (k e : ℕ) → Sized t → Sized (paid_event t k e).table
unfolding paid_event
paid-sized t k e s =
    rw (carried-parts t k e) (
    split (λ (o : Outcome). Sized o.table) (eqb (number_of (paid_answer t.shared k e (port_at t k))) 0) _ _
    (λ n. split (λ (o : Outcome). Sized o.table) (eqb e stepping) _ _ (λ q. step-sized t k s) (λ q. put-sized t k _ s))
    (λ n. s)
    )

-- its costs are at most 1
pub paid-cost : (t : Table) (k e : ℕ) → ((paid_event t k e).cached ≤ 1) × ((paid_event t k e).distributed ≤ 1)
unfolding paid_event
paid-cost t k e = split Small (eqb (number_of (paid_answer t.shared k e (port_at t k))) 0) _ _ (λ n. carried-cost t k e) (λ n. nothing)

module _ (t : Table) (k e : ℕ) (g : good t ≡ true) where
  -- what it answers, at a port that there is and at one that there isn't
  at-port : (b : Bool) → leb t.shared.d k ≡ b
      → cond b NoSuchPort (cond (not (placed t.shared.d (port_at t k))) (BadTable whole) (first_of (refusals e (port_at t k)))) ≡ cond b NoSuchPort (first_of (refusals e (port_at t k)))
  unfolding placed
  at-port true q = refl
  at-port false q =
      let p = port-rules t k g (leb-false _ _ q) in
      rw (lt-ltb _ _ p.seenowner, lt-ltb _ _ p.candidate, le-leb _ _ p.made)

  paid-answer : paid_answer t.shared k e (port_at t k) ≡ refusal t k e
  unfolding paid_answer refusal first_of size_good
  paid-answer =
      let r = shared-rules t g in
      rw (g, le-leb _ _ r.some, le-leb _ _ r.fits, r.active) (at-port (leb t.shared.d k) refl)

  -- it is the event
  pub paid-event : paid_event t k e ≡ event t k e
  unfolding paid_event event
  paid-event = rw paid-answer

-- a port at or above d is refused
pub no-port : (t : Table) (k e : ℕ) → good t ≡ true → t.shared.d ≤ k → event t k e ≡ free NoSuchPort t
unfolding event refusal first_of
no-port t k e g h = rw (g, le-leb t.shared.d k h)
