-- A step on what it can see: the shared part, its own port, and the port that it touches; and the table put together again.
use Rattle.std.specs.Prelude.{◌≡◌, refl, Bool, true, false, cond, List, [], ◌∷◌, ℕ, ◌%◌, ◌≤◌, ◌<◌, ◌^◌, eqb, get_or, set}
use Rattle.std.proofs.Common.{◌∙◌, mod-eq_of_lt, lt_of_lt_of_le, pos_of_ne-zero, arith}
use Rattle.std.proofs.lemmas.List.{set-get_or}
use borrow.Author.Tests.{eq-eqb, ne_eqb, leb-true, ltb-true}
use Rattle.model.specs.declared.Port.{Port}
use Rattle.model.specs.declared.Shared.{Shared}
use Rattle.model.specs.declared.Table.{Table}
use Rattle.model.specs.declared.View.{View}
use Rattle.answers.specs.Verdict.{paid}
use Rattle.lock.specs.declared.orders.Acted.{Acted}
use Rattle.lock.specs.Parts.{stepped_on}
use Rattle.model.specs.declared.Answer.{Answer}
use Rattle.model.specs.declared.Answer.TheVariants.{Done}
use Rattle.model.specs.Table.{most, table, no_port, port_at, copies_at, put_port}
use Rattle.model.specs.Ring.{next}
use Rattle.model.proofs.Laws.Tests.{conjunct, implied, split}
use Rattle.model.proofs.Laws.Mask.{within-lt}
use Rattle.model.proofs.Laws.Ring.{next-any}
use Rattle.model.proofs.Laws.Stepped.{carried-parts}
use Rattle.model.specs.Points.{settled}
use Rattle.model.specs.Good.{whole}
use Rattle.model.specs.Cost.{free}
use Rattle.model.specs.Step.{with_value}
use Rattle.model.specs.Event.{number_of, fault_in, answer_code, first_of, refusals, ordered}
use Rattle.model.specs.Parts.Moves.{sees}
use Rattle.model.specs.Parts.Steps.{touch_of, home_of, view_of, move_of, charge_of, marks, marked, stepped}
use Rattle.model.specs.Paid.{paid_answer, paid_event}

-- what a step may count on, of what it sees
pub record Sight (v : View) : Type 0 where
  pub ports : v.d ≤ 64
  pub port : v.k < v.d
  pub seen : v.own.work.seenowner < v.d
  pub bits : v.active < 2 ^ v.d
  pub unworn : v.own.point ≡ 4 → v.own.made < most

-- the test whether a step can be made
pub seen-sight : (v : View) → sees v ≡ true → Sight v
unfolding sees
seen-sight v e =
    let q = conjunct _ (_ ∷ _ ∷ _ ∷ _ ∷ []) e in
    record {
      ports = leb-true _ _ (q 0);
      port = ltb-true _ _ (q 1);
      seen = ltb-true _ _ (q 2);
      bits = within-lt _ _ (q 3);
      unworn = λ n. ltb-true _ _ (implied _ _ (q 4) (eq-eqb _ _ n));
    }

-- a port of a table is below 64: its bit in a mask is its own
pub round : {v : View} → Sight v → v.k % 64 ≡ v.k
round s = mod-eq_of_lt (lt_of_lt_of_le s.port s.ports)

-- `next` as the code asks it, in the ring of 64, is next in the ring of D
pub ringed : {v : View} → Sight v → (v.active ≡ 0 → ⊥) → (r : ℕ) → r ≡ cond (eqb v.active 0) 64 (next 64 (v.own.work.seenowner % 64) v.active)
    → r ≡ next v.d v.own.work.seenowner v.active
ringed {v} s n r e =
    e
    ∙ rw (ne_eqb v.active 0 n, mod-eq_of_lt (lt_of_lt_of_le s.seen s.ports))
    (next-any s.seen s.ports (pos_of_ne-zero n) s.bits)

-- the table from what an order leaves, where j is the port that it would touch
abbrev pub set_at : Bool → List Port → ℕ → List Port
set_at b ps j = set ps j (with_value (cond b 1 (get_or ps j no_port).value) (get_or ps j no_port))

abbrev pub joined : Table → ℕ → ℕ → Acted → Table
joined t k j l = table (set_at l.sets (set t.ports k l.own) j) (set t.copies j l.copies) l.shared

-- a spin that is set, or left as it is
set-at : (b : Bool) (ps : List Port) (j : ℕ) → set_at b ps j ≡ cond b (set ps j (with_value 1 (get_or ps j no_port))) ps
set-at true ps j = refl
set-at false ps j = set-get_or ps j no_port

module _ (t : Table) (k : ℕ) where
  abbrev pub step_left : Acted
  step_left = stepped_on (touch_of t k) t.shared k (port_at t k) (port_at t (home_of t k)) (copies_at t (home_of t k))

  table-stepped : joined t k (home_of t k) step_left ≡ (stepped t k).table
  unfolding stepped marked stepped_on charge_of move_of view_of
  table-stepped =
      rw
      (set-at
      (marks t k)
      (set t.ports k (settled (move_of t k).own))
      (home_of t k))

  paid-stepped : step_left.paid ≡ paid (stepped t k)
  unfolding stepped stepped_on charge_of move_of view_of paid
  paid-stepped = refl

-- what holds of DONE and of each refusal of a list holds of the first that applies
abbrev pub Each : (Answer → Type 0) → List (Bool × Answer) → Type 0
Each P [] = Unit {0}
Each P (r ∷ rs) = P r.1 × Each P rs

pub first-each : (P : Answer → Type 0) → P Done → (rs : List (Bool × Answer)) → Each P rs → P (first_of rs)
unfolding first_of
first-each P d [] h = d
first-each P d (r ∷ rs) h = split P r.0 r.1 (first_of rs) (λ e. h.0) (λ e. first-each P d rs h.1)

-- an order before anything is changed charges no field: what it answers is a number alone
pub plain-answer : (s : Shared) (k e : ℕ) (p : Port) → fault_in (paid_answer s k e p) ≡ whole
unfolding paid_answer refusals
plain-answer s k e p =
    first-each (λ (a : Answer). fault_in a ≡ whole) refl _ (refl, (refl, (refl, (refl, (refl, (refl, (refl, (refl, (refl, tt)))))))))

pub plain_code : (s : Shared) (k e : ℕ) (p : Port) → answer_code (paid_answer s k e p) ≡ number_of (paid_answer s k e p)
unfolding answer_code
plain_code s k e p = rw (plain-answer s k e p) (omega arith)

-- an order, by what it answers before anything is changed: refused, an event that is no step, or a step
module _ (t : Table) (k e : ℕ) where
  pub refused : (number_of (paid_answer t.shared k e (port_at t k)) ≡ 0 → ⊥) → paid_event t k e ≡ free (paid_answer t.shared k e (port_at t k)) t
  unfolding paid_event
  refused n = rw (ne_eqb (number_of (paid_answer t.shared k e (port_at t k))) 0 n)

  module _ (z : number_of (paid_answer t.shared k e (port_at t k)) ≡ 0) where
    pub obeyed : (e ≡ 2 → ⊥) → paid_event t k e ≡ free Done (put_port t k (ordered e (port_at t k)))
    unfolding paid_event
    obeyed n = rw (carried-parts t k e, eq-eqb (number_of (paid_answer t.shared k e (port_at t k))) 0 z, ne_eqb e 2 n)

    pub moved-table : e ≡ 2 → joined t k (home_of t k) (step_left t k) ≡ (paid_event t k e).table
    unfolding paid_event
    moved-table s =
        rw (carried-parts t k e, eq-eqb (number_of (paid_answer t.shared k e (port_at t k))) 0 z, eq-eqb e 2 s) (table-stepped t k)

    pub moved-paid : e ≡ 2 → (step_left t k).paid ≡ paid (paid_event t k e)
    unfolding paid_event
    moved-paid s =
        rw (carried-parts t k e, eq-eqb (number_of (paid_answer t.shared k e (port_at t k))) 0 z, eq-eqb e 2 s) (paid-stepped t k)
