-- An order on the records of a table as the code finds them: at the place of its port, and at that of the port whose word it would touch.
use Rattle.std.specs.Prelude.{◌≡◌, refl, Bool, true, false, List, ℕ, eqb, Result, Err}
use Rattle.std.proofs.Common.{◌∙◌, sym}
use Rattle.std.proofs.Math.Path.{ap}
use Rattle.std.proofs.lemmas.List.{set-get_or}
use borrow.Author.Tests.{ne_eqb, eqb-true, eqb-false}
use Rattle.model.specs.declared.Port.{Port}
use Rattle.model.specs.declared.Table.{Table}
use Rattle.model.specs.declared.Answer.{Answer}
use Rattle.model.specs.Table.{table, no_port, port_at, copies_at}
use Rattle.model.specs.Event.{number_of}
use Rattle.model.specs.Parts.Charges.{home}
use Rattle.model.specs.Parts.Steps.{touch_of, home_of}
use Rattle.model.specs.Parts.Rules.{slot_of}
use Rattle.model.specs.Paid.{paid_answer, paid_event}
use Rattle.rules.specs.Check.{slot-own}
use Rattle.answers.specs.declared.Costs.{Costs}
use Rattle.answers.specs.Verdict.{paid}
use Rattle.lock.specs.declared.orders.Acted.{Acted}
use Rattle.lock.specs.declared.orders.Reach.{Reach}
use Rattle.lock.specs.Ready.{passed, any-record, port-fits, home_fits}
use Rattle.lock.specs.Parts.{kept, acted_on}
use Rattle.lock.specs.Sight.{joined, refused}
use Rattle.lock.specs.Acted.{act-refused, rejoined, acts}

-- what the order leaves, with the places k and j
abbrev pub acted_at : Table → ℕ → ℕ → ℕ → ℕ → Acted
acted_at t port e k j = acted_on (touch_of t k) t.shared port e (port_at t k) (port_at t j) (copies_at t j)

-- on what the order sees of the table
pub reach-acted : (t : Table) (port e k j : ℕ) (r : Reach) → r.touch ≡ touch_of t k → r.shared ≡ t.shared → r.port ≡ port → r.own ≡ port_at t k
    → r.touched ≡ port_at t j → r.copies ≡ copies_at t j → acted_on r.touch r.shared r.port e r.own r.touched r.copies ≡ acted_at t port e k j
reach-acted t port e k j r a b c d f g = rw (a, b, c, d, f, g)

-- put together, it is what the definitions say; refused, the table is as it was
pub record Placed (t : Table) (port e k j : ℕ) : Type 0 where
  pub value : (acted_at t port e k j).paid ≡ paid (paid_event t port e)
  pub unmoved : (a : Answer) → (acted_at t port e k j).paid ≡ Err a → t ≡ (paid_event t port e).table
  pub table : joined t k j (acted_at t port e k j) ≡ (paid_event t port e).table

-- its own records put back at any places change nothing
pub unchanged : (t : Table) (k j : ℕ) (r : Result Costs Answer) → joined t k j (kept (port_at t k) t.shared (copies_at t j) r) ≡ t
unchanged t k j r = rejoined t k j (port_at t k) ∙ ap (λ (l : List Port). table l t.copies t.shared) (set-get_or t.ports k no_port)

module _ (t : Table) (port e k : ℕ) (a : k ≡ slot_of port) where
  pub same-answer : paid_answer t.shared port e (port_at t k) ≡ paid_answer t.shared port e (port_at t port)
  same-answer = any-record t port e k (slot-own port k a)

  -- where something refuses it, whatever port it would touch
  pub turned-away : (number_of (paid_answer t.shared port e (port_at t k)) ≡ 0 → ⊥)
      → (Err (paid_answer t.shared port e (port_at t k)) ≡ paid (paid_event t port e)) × (t ≡ (paid_event t port e).table)
  unfolding paid
  turned-away n =
      let m = λ (z : number_of (paid_answer t.shared port e (port_at t port)) ≡ 0). n (ap number_of same-answer ∙ z) in
      let o = refused t port e m in
      (rw (o, same-answer, ne_eqb _ 0 m), rw o)

module _ (t : Table) (port e k j : ℕ) (a : k ≡ slot_of port) (b : j ≡ slot_of (home (touch_of t k).cell port (port_at t k).work)) where
  abbrev number : ℕ
  number = number_of (paid_answer t.shared port e (port_at t k))

  passes : number ≡ 0 → Placed t port e k j
  unfolding home_of
  passes n =
      let p = passed t.shared port e (port_at t port) (ap number_of (sym (same-answer t port e k a)) ∙ n) in
      let q : k ≡ port = slot-own port k a (port-fits t port e p) in
      let h : j ≡ slot_of (home_of t port) = b ∙ ap (λ (i : ℕ). slot_of (home (touch_of t i).cell port (port_at t i).work)) q in
      let r : j ≡ home_of t port = slot-own (home_of t port) j h (home_fits t port e p) in
      let o = acts t port e in
      record { value = rw (q, r) o.value; unmoved = rw (q, r) o.refused; table = rw (q, r) o.table }

  refuses : (number ≡ 0 → ⊥) → Placed t port e k j
  refuses n =
      let f = act-refused (touch_of t k) t.shared port e (port_at t k) (port_at t j) (copies_at t j) n in
      let o = turned-away t port e k a n in
      record { value = rw (← f) o.0; unmoved = λ a z. o.1; table = rw (← f) (unchanged t k j (Err (paid_answer t.shared port e (port_at t k))) ∙ o.1) }

  pub placed : Placed t port e k j
  placed = go (eqb number 0) refl
    where
      go : (x : Bool) → eqb number 0 ≡ x → Placed t port e k j
      go true q = passes (eqb-true _ _ q)
      go false q = refuses (eqb-false _ _ q)
