-- An event from one order, and an outcome in one number.
use Rattle.std.specs.Prelude.{◌≡◌, Bool, true, false, cond, ℕ, ◌+◌, ◌*◌, ◌/◌, ◌%◌, ◌<◌, eqb, Result, Ok, Err, None, Some}
use Rattle.std.proofs.Math.Path.{refl, ap}
use Rattle.std.proofs.Common.{sym, ◌∙◌, arith}
use Rattle.model.specs.declared.Fault.{Fault}
use Rattle.model.specs.declared.Table.{Table}
use Rattle.model.specs.declared.Outcome.{Outcome}
use Rattle.model.specs.declared.Answer.{Answer}
use Rattle.model.specs.declared.Answer.TheVariants.{Done, BadTable, NoSuchPort, NoSuchEvent, Busy, Worn, NotInside, Idle, Inside, BadSize, ShortRoom, BadImage}
use Rattle.model.specs.Table.{port_at, copies_at}
use Rattle.model.specs.Cost.{outcome, free}
use Rattle.model.specs.Event.{number_of, fault_in, answer_code, first_of, refusal, stepping, carried, event}
use Rattle.model.specs.Good.{whole, good, bad_in}
use Rattle.model.specs.Run.{code_of}
use Rattle.model.specs.Paid.{paid_answer, paid_event}
use Rattle.model.specs.Parts.Charges.{home}
use Rattle.model.specs.Parts.Steps.{touch_of, home_of, stepped}
use Rattle.model.specs.Parts.Rules.{slot_of}
use Rattle.model.proofs.Laws.Tests.{split}
use Rattle.model.proofs.Laws.Stepped.{carried-parts}
use Rattle.model.proofs.Laws.Paid.{paid-event}
use Rattle.rules.specs.Found.{found}
use Rattle.rules.specs.Finding.{none-good, some-bad}
use Rattle.answers.specs.declared.Costs.{Costs}
use Rattle.answers.specs.Verdict.{paid}
use Rattle.answers.specs.Verdict as Verdict
use Rattle.lock.specs.declared.orders.Acted.{Acted}
use Rattle.lock.specs.Parts.{stepped_on, kept}
use Rattle.lock.specs.Sight.{joined, plain-answer, moved-table, moved-paid}
use Rattle.lock.specs.Placed.{acted_at, unchanged, placed}

-- an answer's number fits one digit
pub number_small : (a : Answer) → number_of a < 256
number_small Done = omega arith
number_small (BadTable f) = omega arith
number_small NoSuchPort = omega arith
number_small NoSuchEvent = omega arith
number_small Busy = omega arith
number_small Worn = omega arith
number_small NotInside = omega arith
number_small Idle = omega arith
number_small Inside = omega arith
number_small BadSize = omega arith
number_small ShortRoom = omega arith
number_small BadImage = omega arith

-- an answer's number and both costs in one number, and its digits
abbrev pub plain_of : Outcome → ℕ
plain_of o = number_of o.answer + 256 * o.cached + 65536 * o.distributed

pub decoded : (o : Outcome) → o.cached < 256
    → (plain_of o % 256 ≡ number_of o.answer) × (plain_of o / 256 % 256 ≡ o.cached) × (plain_of o / 65536 ≡ o.distributed)
decoded o h =
    let n = number_small o.answer in
    (omega (arith, n), omega (arith, n, h), omega (arith, n, h))

module _ (t : Table) (k e : ℕ) where
  -- an event that is not refused answers DONE
  carried-done : (carried t k e).answer ≡ Done
  unfolding stepped
  carried-done = rw (carried-parts t k e) (split (λ (o : Outcome). o.answer ≡ Done) (eqb e stepping) _ _ (λ q. refl) (λ q. refl))

  -- an order whose check has been paid charges no field: its code is the plain one
  plain-event : fault_in (paid_event t k e).answer ≡ whole
  unfolding paid_event
  plain-event =
      split (λ (o : Outcome). fault_in o.answer ≡ whole) (eqb (number_of (paid_answer t.shared k e (port_at t k))) 0) _ _
      (λ q. ap fault_in carried-done)
      (λ q. plain-answer t.shared k e (port_at t k))

  pub paid-code : code_of (paid_event t k e) ≡ plain_of (paid_event t k e)
  unfolding code_of answer_code
  paid-code = rw plain-event (omega arith)

  -- nor does an event on a good table
  pub event-code : good t ≡ true → code_of (event t k e) ≡ plain_of (event t k e)
  event-code g = rw (← paid-event t k e g) paid-code

  pub bad-event : good t ≡ false → event t k e ≡ free (BadTable (bad_in t)) t
  unfolding event refusal first_of
  bad-event h = rw h

-- an outcome from its table and what it says beside it
abbrev pub outcome_of : Table → Result Costs Answer → Outcome
outcome_of t (Ok c) = outcome t c.cached c.distributed Done
outcome_of t (Err a) = free a t

module _ (t : Table) (k e : ℕ) where
  -- an order is its table, and what it costs or why it is refused
  pub order-whole : outcome_of (paid_event t k e).table (paid (paid_event t k e)) ≡ paid_event t k e
  unfolding paid paid_event
  order-whole = go (eqb (number_of (paid_answer t.shared k e (port_at t k))) 0) refl
    where
      go : (b : Bool) → eqb (number_of (paid_answer t.shared k e (port_at t k))) 0 ≡ b
          → outcome_of (paid_event t k e).table (paid (paid_event t k e)) ≡ paid_event t k e
      go true q = rw (q, carried-done t k e)
      go false q = rw (q, q)

  -- in one number
  pub order-code : Verdict.code_of (paid (paid_event t k e)) ≡ code_of (paid_event t k e)
  unfolding Verdict.code_of paid paid_event code_of answer_code
  order-code = go (eqb (number_of (paid_answer t.shared k e (port_at t k))) 0) refl
    where
      go : (b : Bool) → eqb (number_of (paid_answer t.shared k e (port_at t k))) 0 ≡ b
          → Verdict.code_of (paid (paid_event t k e)) ≡ code_of (paid_event t k e)
      go true q = rw (q, carried-done t k e) (omega arith)
      go false q = rw (q, q) (omega arith)

  -- an event is refused where something is bad, and else is the order
  pub event-refused : (f : Fault) → Some f ≡ found (bad_in t) → outcome_of t (Err (BadTable f)) ≡ event t k e
  event-refused f h =
      let b = some-bad t f h in
      rw b.1 (sym (bad-event t k e b.0))

  pub event-carried : None ≡ found (bad_in t) → outcome_of (paid_event t k e).table (paid (paid_event t k e)) ≡ event t k e
  event-carried h = order-whole ∙ paid-event t k e (none-good t h)

-- put together again
pub outcome-ok : (t : Table) (r : Result Costs Answer) (o : Outcome) (c : Costs) → r ≡ Ok c → outcome_of t r ≡ o → outcome t c.cached c.distributed Done ≡ o
outcome-ok t r o c e h = rw e at h

pub outcome-err : (t : Table) (r : Result Costs Answer) (o : Outcome) (a : Answer) → r ≡ Err a → outcome_of t r ≡ o → free a t ≡ o
outcome-err t r o a e h = rw e at h

-- what an event leaves, by what is bad, and by what its order costs or why it is refused
module _ (t : Table) (k e : ℕ) where
  pub told-refused : (f : Fault) → found (bad_in t) ≡ Some f → free (BadTable f) t ≡ event t k e
  told-refused f h = event-refused t k e f (sym h)

  pub told-ok : (c : Costs) → found (bad_in t) ≡ None → paid (paid_event t k e) ≡ Ok c → outcome (paid_event t k e).table c.cached c.distributed Done ≡ event t k e
  told-ok c h p = outcome-ok _ _ _ c p (event-carried t k e (sym h))

  pub told-err : (a : Answer) → found (bad_in t) ≡ None → paid (paid_event t k e) ≡ Err a → free a (paid_event t k e).table ≡ event t k e
  told-err a h p = outcome-err _ _ _ a p (event-carried t k e (sym h))

-- what the goal of `event` is proved by, whatever its parts are called
pub ruleset telling = (told-refused, told-ok, told-err)

-- the outcome from what an order leaves, where j is the port that it would touch
abbrev pub assembled : Table → ℕ → ℕ → Acted → Outcome
assembled t k j l = outcome_of (joined t k j l) l.paid

-- a step that nothing refuses
pub moved : (t : Table) (k e : ℕ) → number_of (paid_answer t.shared k e (port_at t k)) ≡ 0 → e ≡ 2 → (j : ℕ) (l : Acted) → j ≡ home_of t k
    → l ≡ stepped_on (touch_of t k) t.shared k (port_at t k) (port_at t j) (copies_at t j) → assembled t k j l ≡ paid_event t k e
moved t k e z s j l x y = rw (y, x, moved-paid t k e z s, moved-table t k e z s) (order-whole t k e)

-- what an order on a table that was checked leaves, as an event
pub one-event : (t : Table) (port e k j : ℕ) (l : Acted) → k ≡ slot_of port → j ≡ slot_of (home (touch_of t k).cell port (port_at t k).work)
    → l ≡ cond (good t) (acted_at t port e k j) (kept (port_at t k) t.shared (copies_at t j) (Err (BadTable (bad_in t))))
    → assembled t k j l ≡ event t port e
one-event t port e k j l a b = go (good t) refl
  where
    go : (x : Bool) → good t ≡ x → l ≡ cond x (acted_at t port e k j) (kept (port_at t k) t.shared (copies_at t j) (Err (BadTable (bad_in t))))
        → assembled t k j l ≡ event t port e
    go true q f =
        let p = placed t port e k j a b in
        rw (f, p.value, p.table) (order-whole t port e ∙ paid-event t port e q)
    go false q f =
        let z = Err (BadTable (bad_in t)) in
        rw (f, unchanged t k j z) (sym (bad-event t port e q))
