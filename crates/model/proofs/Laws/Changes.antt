-- What an order changes, and at which points alone: all else of its port, of the other ports, ACTIVE and the word are the same after it.
use Rattle.std.specs.Prelude.{◌≡◌, refl, true, ◌&&◌, ℕ, ◌+◌, ◌<◌, eqb}
use Rattle.std.proofs.Common.{sym, ◌∙◌, ap, subst}
use Rattle.std.proofs.Math.Dec.{ltb}
use Rattle.model.specs.declared.Word.{Word}
use Rattle.model.specs.declared.Port.{Port}
use Rattle.model.specs.declared.Shared.{Shared}
use Rattle.model.specs.declared.Table.{Table}
use Rattle.model.specs.Table.{room, port_at, Sized}
use Rattle.model.specs.Points.{Tens, two, three, four, Point, none, p0, p1, p2, p3, p4, p5, p6, p8, p9, p10, p11, p12, p13, p14, p15, p16, p17, p18, p19, x0, x1, x2, x3, x4, x5, tens, point_of, settled}
use Rattle.model.specs.Good.{named}
use Rattle.model.specs.Step.{at, with_flag, with_value, with_work, unasked}
use Rattle.model.specs.Event.{ordered}
use Rattle.model.specs.Parts.Moves.{step}
use Rattle.model.specs.Parts.Steps.{move_of, shared_after, stepped}
use Rattle.model.specs.Run.{Order, after}
use Rattle.model.proofs.Laws.Tests.{split}
use Rattle.model.proofs.Laws.Cases.{Allowed, enters, crashes, calls_off, leaves, after-case}
use Rattle.model.proofs.Laws.Own.{number_of_point, number, sight_of, move_at}
use Rattle.model.proofs.Laws.After.{step_after}
use Rattle.model.proofs.Laws.Ports.{Sets, Left, unset, set_one, put_other, own-left, other-left, left-rest}

-- what is the same where the step of port k of a table, at point n, leaves r at k, and u of what all share
pub record Kept (t : Table) (k n : ℕ) (r : Port) (u : Shared) : Type 0 where
  pub go : (n ≡ 4 → ⊥) → (n ≡ 18 → ⊥) → r.go ≡ (port_at t k).go
  pub status : (n ≡ 10 → ⊥) → (n ≡ 12 → ⊥) → (n ≡ 13 → ⊥) → (n ≡ 19 → ⊥) → r.status ≡ (port_at t k).status
  pub flag : (n ≡ 19 → ⊥) → r.flag ≡ (port_at t k).flag
  pub made : (n ≡ 4 → ⊥) → r.made ≡ (port_at t k).made
  pub value : (n ≡ 4 → ⊥) → (Sets t k k → ⊥) → r.value ≡ (port_at t k).value
  pub active : (n ≡ 6 → ⊥) → (n ≡ 15 → ⊥) → u.active ≡ t.shared.active
  pub word : (n ≡ 17 → ⊥) → ((x : Tens) → n ≡ tens x + 3 → ⊥) → u.word ≡ t.shared.word

-- where a step changes a field, its point is among those left out
never : {A : Type 0} {a b : A} → ⊥ → a ≡ b
never h = absurd h

never-swaps : (x : Tens) {w u : Word} → ((y : Tens) → tens x + 3 ≡ tens y + 3 → ⊥) → w ≡ u
never-swaps x h = absurd (h x refl)

-- the move of a port by its point, with GO g of the port that it touches
module _ (t : Table) (k g : ℕ) where
  abbrev MoveKept : Point → Type 0
  MoveKept q =
      Kept t k (number_of_point q) (step q (sight_of t k g)).own (shared_after (step q (sight_of t k g)) t.shared)

  unasked-kept : (x : Tens) → Kept t k (tens x + 1) (unasked x k (port_at t k)) t.shared
  unfolding unasked
  unasked-kept two = search
  unasked-kept three = search
  unasked-kept four = search

  move-kept : (q : Point) → MoveKept q
  unfolding step number_of_point
  move-kept none = search
  move-kept p0 = search
  move-kept p1 = search
  move-kept p2 = search
  move-kept p3 = search
  move-kept p4 = search never
  move-kept p5 = search
  move-kept p6 = search never
  move-kept p8 = search
  move-kept p9 = search
  move-kept p10 = search never
  move-kept p11 = search
  move-kept p12 = search never
  move-kept p13 = search never
  move-kept p14 = search
  move-kept p15 = search never
  move-kept p16 = search
  move-kept p17 = search never
  move-kept p18 = search never
  move-kept p19 = search never
  move-kept (x0 x) = search
  move-kept (x1 x) =
      split (λ (p : Port). Kept t k (tens x + 1) p t.shared) (eqb t.shared.active 0) _ _ (λ e. unasked-kept x) (λ e. search)
  move-kept (x2 x) = search
  move-kept (x3 x) = search (never-swaps x)
  move-kept (x4 x) =
      split (λ (p : Port). Kept t k (tens x + 4) p t.shared)
      (eqb t.shared.word.taken 1 && ltb 0 t.shared.word.spin)
      _
      _
      (λ e. search)
      (λ e. search)
  move-kept (x5 x) = search

-- a step changes GO of its port only at 4 and 18, STATUS at 10, 12, 13 and 19, the flag at 19, made at 4, and the latest value at 4 and where
-- it sets that spin; ACTIVE only at 6 and 15, and the word at 17 and x3
pub step_kept : (t : Table) (k : ℕ) → Sized t → k < room → named (port_at t k).point ≡ true
    → Kept t k (port_at t k).point (port_at (stepped t k).table k) (stepped t k).table.shared
unfolding settled
step_kept t k s h e =
    record {
      go = λ a b. ap (λ (p : Port). p.go) rest ∙ m.go a b;
      status = λ a b c d. ap (λ (p : Port). p.status) rest ∙ m.status a b c d;
      flag = λ a. ap (λ (p : Port). p.flag) rest ∙ m.flag a;
      made = λ a. ap (λ (p : Port). p.made) rest ∙ m.made a;
      value = unless-set (own-left t k s h);
      active = λ a b. (step_after t k).active ∙ m.active a b;
      word = λ a b. (step_after t k).word ∙ m.word a b;
    }
  where
    n : ℕ
    n = (port_at t k).point

    m : Kept t k n (move_of t k).own (shared_after (move_of t k) t.shared)
    m =
        subst (λ (i : ℕ). Kept t k i (move_of t k).own (shared_after (move_of t k) t.shared)) (sym (number n (point_of n) e refl))
        (rw (move_at t k (point_of n) refl) (move-kept t k _ (point_of n)))

    rest : port_at (stepped t k).table k ≡ with_value (port_at (stepped t k).table k).value (settled (move_of t k).own)
    rest = left-rest t k k _ (own-left t k s h)

    unless-set : Left t k k (settled (move_of t k).own) → (n ≡ 4 → ⊥) → (Sets t k k → ⊥)
        → (port_at (stepped t k).table k).value ≡ (port_at t k).value
    unless-set (unset q) a b = ap (λ (p : Port). p.value) q ∙ m.value a b
    unless-set (set_one w q) a b = absurd (b w)

-- an event that is no step changes only the point, the working values and the flag of its port
pub ordered-rest : (e : ℕ) (p : Port) → Allowed e p
    → ordered e p ≡ at (ordered e p).point (with_work (ordered e p).work (with_flag (ordered e p).flag p))
ordered-rest e p (enters _ _ _ q) = rw q
ordered-rest e p (crashes _ _ q) = rw q
ordered-rest e p (calls_off _ _ q) = rw q
ordered-rest e p (leaves _ _ q) = rw q

-- an order changes only the latest value of another port
pub other-rest : (t : Table) (o : Order) (j : ℕ) → (j ≡ o.port → ⊥)
    → port_at (after t o) j ≡ with_value (port_at (after t o) j).value (port_at t j)
other-rest t o j n =
    after-case t o (λ (u : Table). port_at u j ≡ with_value (port_at u j).value (port_at t j)) refl
    (λ c. rw (put_other t o.port j (ordered o.event (port_at t o.port)) n))
    (λ c. left-rest t o.port j (port_at t j) (other-left t o.port j n))
