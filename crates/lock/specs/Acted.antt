-- An order on what it can see, and the table put together again.
use Rattle.std.specs.Prelude.{◌≡◌, Bool, true, false, ℕ, eqb, set, Ok, Err}
use Rattle.std.proofs.Math.Path.{refl, ap}
use Rattle.std.proofs.Common.{sym, ◌∙◌, le_trans}
use mathlib.Core.List.{List}
use borrow.Author.Tests.{eq-eqb, ne_eqb, eqb-true, eqb-false}
use Rattle.std.proofs.Math.Arith.{lt_of_le-ne}
use Rattle.std.proofs.lemmas.List.{set-get_or}
use Rattle.model.specs.declared.Port.{Port}
use Rattle.model.specs.declared.Copies.{Copies}
use Rattle.model.specs.declared.Shared.{Shared}
use Rattle.model.specs.declared.Table.{Table}
use Rattle.model.specs.declared.Touch.{Touch}
use Rattle.model.specs.declared.Answer.{Answer}
use Rattle.model.specs.Table.{table, no_port, port_at, copies_at, put_port}
use Rattle.model.specs.Event.{number_of, ordered, stepping}
use Rattle.model.specs.Parts.Steps.{touch_of, home_of}
use Rattle.model.specs.Paid.{paid_answer, paid_event}
use Rattle.model.proofs.Laws.Mask.{within-lt}
use Rattle.model.proofs.Laws.Cases.{unrefused-step}
use Rattle.model.proofs.Laws.Kept.{room_fits}
use Rattle.answers.specs.declared.Costs.{Costs}
use Rattle.answers.specs.Verdict.{passed, paid}
use Rattle.lock.specs.declared.orders.Acted.{Acted}
use Rattle.lock.specs.Parts.{costs, view_on, stepped_on, kept, acted_on}
use Rattle.lock.specs.Sight.{Sight, set_at, joined, refused, obeyed, moved-table, moved-paid}
use Rattle.lock.specs.Ready.{Passed, passed-ok, passed-err}

-- a step sees what it needs
pub sight-on : (s : Shared) (k e : ℕ) (p q : Port) → Passed s k e p → e ≡ stepping → Sight (view_on s k p q)
sight-on s k e p q a x =
    record {
      ports = le_trans a.fits room_fits;
      port = a.port;
      seen = a.seen;
      bits = within-lt _ _ a.bits;
      unworn = λ n. lt_of_le-ne a.made (unrefused-step p (rw x at a.unrefused) n);
    }

-- the three ways of an order
module _ (u : Touch) (s : Shared) (k e : ℕ) (p q : Port) (c : Copies) where
  pub act-refused : (number_of (paid_answer s k e p) ≡ 0 → ⊥) → kept p s c (Err (paid_answer s k e p)) ≡ acted_on u s k e p q c
  unfolding acted_on
  act-refused n = rw (ne_eqb (number_of (paid_answer s k e p)) 0 n)

  pub act-ordered : number_of (paid_answer s k e p) ≡ 0 → (e ≡ 2 → ⊥) → kept (ordered e p) s c (Ok (costs 0 0)) ≡ acted_on u s k e p q c
  unfolding acted_on
  act-ordered z n = rw (eq-eqb (number_of (paid_answer s k e p)) 0 z, ne_eqb e 2 n)

  pub act-stepped : number_of (paid_answer s k e p) ≡ 0 → e ≡ 2 → stepped_on u s k p q c ≡ acted_on u s k e p q c
  unfolding acted_on
  act-stepped z n = rw (eq-eqb (number_of (paid_answer s k e p)) 0 z, eq-eqb e 2 n)

  -- an order that is refused, by what is answered
  pub act-answered : (a : Answer) → passed (paid_answer s k e p) ≡ Err a → kept p s c (Err a) ≡ acted_on u s k e p q c
  act-answered a h = let x = passed-err (paid_answer s k e p) a (sym h) in rw x.0 (act-refused x.1)

-- what the goals of `act` are proved by, whatever they are called
pub ruleset acting = (act-answered, passed-ok)

abbrev pub acted : Table → ℕ → ℕ → Acted
acted t k e = acted_on (touch_of t k) t.shared k e (port_at t k) (port_at t (home_of t k)) (copies_at t (home_of t k))

-- a table put together from its own records
pub rejoined : (t : Table) (k j : ℕ) (p : Port) → table (set_at false (set t.ports k p) j) (set t.copies j (copies_at t j)) t.shared ≡ put_port t k p
rejoined t k j p = rw (set-get_or (set t.ports k p) j no_port, set-get_or t.copies j _)

-- an order that is carried out is not refused
ok-err : {c : Costs} {a : Answer} → Ok c ≡ Err a → ⊥
ok-err e = cc

-- what an order leaves, put together, is what the definitions say
pub record Acts (t : Table) (k e : ℕ) : Type 0 where
  pub value : (acted t k e).paid ≡ paid (paid_event t k e)
  pub table : joined t k (home_of t k) (acted t k e) ≡ (paid_event t k e).table
  pub refused : (a : Answer) → (acted t k e).paid ≡ Err a → t ≡ (paid_event t k e).table

module _ (t : Table) (k e : ℕ) where
  abbrev number : ℕ
  number = number_of (paid_answer t.shared k e (port_at t k))

  abbrev j : ℕ
  j = home_of t k

  acts-refused : (number ≡ 0 → ⊥) → Acts t k e
  unfolding paid
  acts-refused n =
      let a = act-refused (touch_of t k) t.shared k e (port_at t k) (port_at t j) (copies_at t j) n in
      let o = refused t k e n in
      record {
        value = rw (← a, o, ne_eqb number 0 n);
        table = rw (← a, o) (rejoined t k j (port_at t k) ∙ ap (λ (l : List Port). table l t.copies t.shared) (set-get_or t.ports k no_port));
        refused = λ x z. rw o;
      }

  acts-ordered : number ≡ 0 → (e ≡ 2 → ⊥) → Acts t k e
  unfolding paid
  acts-ordered z n =
      let a = act-ordered (touch_of t k) t.shared k e (port_at t k) (port_at t j) (copies_at t j) z n in
      let o = obeyed t k e z n in
      record {
        value = rw (← a, o);
        table = rw (← a, o) (rejoined t k j (ordered e (port_at t k)));
        refused = λ x q. absurd (ok-err (ap (λ (l : Acted). l.paid) a ∙ q));
      }

  acts-stepped : number ≡ 0 → e ≡ 2 → Acts t k e
  unfolding stepped_on
  acts-stepped z n =
      let a = act-stepped (touch_of t k) t.shared k e (port_at t k) (port_at t j) (copies_at t j) z n in
      record {
        value = rw (← a) (moved-paid t k e z n);
        table = rw (← a) (moved-table t k e z n);
        refused = λ x q. absurd (ok-err (ap (λ (l : Acted). l.paid) a ∙ q));
      }

  pub acts : Acts t k e
  acts = go (eqb number 0) refl
    where
      steps : number ≡ 0 → (b : Bool) → eqb e 2 ≡ b → Acts t k e
      steps z true q = acts-stepped z (eqb-true _ _ q)
      steps z false q = acts-ordered z (eqb-false _ _ q)

      go : (b : Bool) → eqb number 0 ≡ b → Acts t k e
      go true q = steps (eqb-true _ _ q) (eqb e 2) refl
      go false q = acts-refused (eqb-false _ _ q)
