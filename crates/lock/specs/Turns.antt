-- A run's loop: what is still to do is what the definitions say of the whole run.
use Rattle.std.specs.Prelude.{◌≡◌, refl, Bool, cond, List, ◌∷◌, ℕ, suc, ◌+◌, ◌-◌, ◌*◌, ◌/◌, ◌≤◌, ◌<◌, min, length, get_or, set, drop, Some, Ok}
use Rattle.std.proofs.Math.Path.{sym, ap}
use Rattle.std.proofs.Common.{◌∙◌, lt_of_lt_of_le, add-one, get_or-drop, drop-drop}
use Rattle.std.proofs.Math.Bool.{true, false}
use Rattle.std.proofs.Math.Nat.{min-le_left, min-le_right, sub-zero}
use native.Mathlib.Omega.{arith}
use Rattle.std.proofs.Math.ListN.{length-set}
use Rattle.std.proofs.Math.Seq.{sets}
use Rattle.model.specs.declared.Port.{Port}
use Rattle.model.specs.declared.Copies.{Copies}
use Rattle.model.specs.declared.Shared.{Shared}
use Rattle.model.specs.declared.Touch.{Touch}
use Rattle.model.specs.declared.Table.{Table}
use Rattle.model.specs.declared.Outcome.{Outcome}
use Rattle.model.specs.declared.Fault.{Fault}
use Rattle.model.specs.declared.Answer.{Answer}
use Rattle.model.specs.declared.Answer.TheVariants.{Done, BadTable}
use Rattle.model.specs.Table.{Sized, port_at}
use Rattle.model.specs.Good.{good, bad_in}
use Rattle.model.specs.Event.{number_of, event}
use Rattle.model.specs.Run.{Order, order, ran, orders, code_of, codes, run, run_answers}
use Rattle.model.proofs.Laws.After.{after-sized}
use Rattle.model.specs.Paid.{paid_answer, paid_event}
use Rattle.model.proofs.Laws.Kept.{good-after}
use Rattle.model.proofs.Laws.Paid.{paid-event}
use Rattle.model.specs.Parts.Charges.{home, charge}
use Rattle.model.specs.Parts.Steps.{touch_of, shared_after, copies_after}
use Rattle.model.specs.Parts.Rules.{slot_of}
use Rattle.rules.specs.Check.{slot-own}
use Rattle.rules.specs.Found.{found}
use Rattle.rules.specs.Finding.{some-bad}
use Rattle.model.proofs.Laws.Fees.{charge-cost}
use Rattle.answers.specs.declared.Costs.{Costs}
use Rattle.lock.specs.Parts.{costs, move_on, stepped_on}
use Rattle.answers.specs.Verdict.{paid}
use Rattle.answers.specs.Verdict as Verdict
use Rattle.lock.specs.declared.orders.Acted.{Acted}
use Rattle.lock.specs.Sight.{joined, plain_code, refused}
use Rattle.lock.specs.Ready.{any-record}
use Rattle.lock.specs.Placed.{acted_at, placed}
use Rattle.lock.specs.Single.{order-code}

-- the costs of a step fit one digit each
pub costs-small : (u : Touch) (s : Shared) (k : ℕ) (p q : Port) (c : Copies) (x : Costs) → (stepped_on u s k p q c).paid ≡ Ok x
    → (x.cached < 256) × (x.distributed < 256)
unfolding stepped_on
costs-small u s k p q c x e =
    let m = move_on s k p q in
    let r = charge u k p.work q (shared_after m s) (copies_after m c) in
    let h = charge-cost u k p.work q (shared_after m s) (copies_after m c) in
    let a : x ≡ costs r.cached r.distributed = cc in
    (rw a (omega (arith, h.0)), rw a (omega (arith, h.1)))

-- turn i of n has its order, two of the a numbers, and one of the b places for answers
pub places : (a b n i : ℕ) (sound : Bool) → n ≡ cond sound (min (a / 2) b) 0 → i < n → (2 * i + 1 < a) × (i < b)
places a b n i true e h =
    let x : i < a / 2 = lt_of_lt_of_le (rw e at h) (min-le_left (a / 2) b) in
    let y : i < b = lt_of_lt_of_le (rw e at h) (min-le_right (a / 2) b) in
    (omega (arith, x), y)
places a b n i false e h = absurd (omega (arith, e, h))

-- orders are carried out on a good table alone
pub some-order : (m n : ℕ) (sound g : Bool) → n ≡ cond sound m 0 → sound ≡ g → 0 < n → g ≡ true
some-order m n true g e q h = sym q
some-order m n false g e q h = absurd (omega (arith, e, h))

-- the order of turn i, and those after it
pub next-order : (n i : ℕ) (xs : List ℕ) → i < n
    → orders (n - i) (drop (2 * i) xs) ≡ order (get_or xs (2 * i) 0) (get_or xs (2 * i + 1) 0) ∷ orders (n - (i + 1)) (drop (2 * (i + 1)) xs)
unfolding orders
next-order n i xs h =
    let e : n - i ≡ suc (n - (i + 1)) = omega arith in
    let a : 2 * i + 0 ≡ 2 * i = omega arith in
    let b : 2 * i + 2 ≡ 2 * (i + 1) = omega arith in
    rw (e, get_or-drop (2 * i) xs 0 0, get_or-drop (2 * i) xs 1 0, drop-drop 2 (2 * i) xs, a, b)

-- the loop of a run over the orders xs, from the table t₀ and the answers a₀, before turn i with the table t and the answers a
pub record Running (xs : List ℕ) (n : ℕ) (t₀ : Table) (a₀ : List ℕ) (i : ℕ) (t : Table) (a : List ℕ) : Type 0 where
  pub upto : i ≤ n
  pub sized : Sized t
  pub sound : i < n → good t ≡ true
  pub long : length a ≡ length a₀
  pub table : ran t (orders (n - i) (drop (2 * i) xs)) ≡ ran t₀ (orders n xs)
  pub text : sets a i (codes t (orders (n - i) (drop (2 * i) xs))) ≡ sets a₀ 0 (codes t₀ (orders n xs))

module _ (xs : List ℕ) (n : ℕ) (t₀ : Table) (a₀ : List ℕ) where
  pub begins : Sized t₀ → (0 < n → good t₀ ≡ true) → Running xs n t₀ a₀ 0 t₀ a₀
  begins s g = record { upto = omega arith; sized = s; sound = g; long = refl; table = rw (sub-zero n); text = rw (sub-zero n) }

  -- a turn, from the table and the code of its event
  pub turned : (i : ℕ) (t u : Table) (a : List ℕ) (c : ℕ) → i < n → Running xs n t₀ a₀ i t a
      → u ≡ (event t (get_or xs (2 * i) 0) (get_or xs (2 * i + 1) 0)).table → c ≡ code_of (event t (get_or xs (2 * i) 0) (get_or xs (2 * i + 1) 0))
      → Running xs n t₀ a₀ (i + 1) u (set a i c)
  unfolding ran codes
  turned i t u a c h r p q =
      let o = order (get_or xs (2 * i) 0) (get_or xs (2 * i + 1) 0) in
      record {
        upto = omega arith;
        sized = rw p (after-sized t o r.sized);
        sound = λ m. rw p (good-after t o r.sized (r.sound h));
        long = length-set a i c ∙ r.long;
        table = rw p (rw (next-order n i xs h) at r.table);
        text =
            rw (p, q)
            (ap
            (λ (m : ℕ). sets (set a i (code_of (event t o.port o.event))) m (codes (event t o.port o.event).table (orders (n - (i + 1)) (drop (2 * (i + 1)) xs))))
            (add-one i)
            ∙ (rw (next-order n i xs h) at r.text));
      }

  -- a turn, from its order on a table whose check has been paid
  pub turn-paid : (i : ℕ) (t u : Table) (a : List ℕ) (c : ℕ) → i < n → Running xs n t₀ a₀ i t a
      → u ≡ (paid_event t (get_or xs (2 * i) 0) (get_or xs (2 * i + 1) 0)).table
      → c ≡ Verdict.code_of (paid (paid_event t (get_or xs (2 * i) 0) (get_or xs (2 * i + 1) 0)))
      → Running xs n t₀ a₀ (i + 1) u (set a i c)
  turn-paid i t u a c h r p q =
      let k = get_or xs (2 * i) 0 in
      let e = get_or xs (2 * i + 1) 0 in
      let o = paid-event t k e (r.sound h) in
      turned i t u a c h r (p ∙ ap (λ (x : Outcome). x.table) o) (q ∙ order-code t k e ∙ ap code_of o)

  -- the same, where the answer is put at j
  pub turn-at : (i j : ℕ) (t u : Table) (a : List ℕ) (c : ℕ) → i < n → Running xs n t₀ a₀ i t a → j ≡ i
      → u ≡ (paid_event t (get_or xs (2 * i) 0) (get_or xs (2 * i + 1) 0)).table
      → c ≡ Verdict.code_of (paid (paid_event t (get_or xs (2 * i) 0) (get_or xs (2 * i + 1) 0)))
      → Running xs n t₀ a₀ (i + 1) u (set a j c)
  turn-at i j t u a c h r z p q = rw z (turn-paid i t u a c h r p q)

  module _ (i : ℕ) (t : Table) (a : List ℕ) (h : i < n) (r : Running xs n t₀ a₀ i t a) (k : ℕ) (p : k ≡ slot_of (get_or xs (2 * i) 0)) where
    abbrev port : ℕ
    port = get_or xs (2 * i) 0

    abbrev event-at : ℕ
    event-at = get_or xs (2 * i + 1) 0

    -- refused
    pub turn-refused : (c : ℕ) → c ≡ number_of (paid_answer t.shared port event-at (port_at t k)) → (c ≡ 0 → ⊥) → Running xs n t₀ a₀ (i + 1) t (set a i c)
    unfolding code_of
    turn-refused c e z =
        let q = e ∙ ap number_of (any-record t port event-at k (slot-own port k p)) in
        let o = sym (refused t port event-at (λ y. z (q ∙ y))) ∙ paid-event t port event-at (r.sound h) in
        turned i t t a c h r (ap (λ (x : Outcome). x.table) o) (q ∙ rw (← o, plain_code t.shared port event-at (port_at t port)) (omega arith))

    -- carried out
    pub turn-done : (j : ℕ) (l : Acted) → j ≡ slot_of (home (touch_of t k).cell port (port_at t k).work) → l ≡ acted_at t port event-at k j
        → Running xs n t₀ a₀ (i + 1) (joined t k j l) (set a i (Verdict.code_of l.paid))
    turn-done j l q e =
        let f = placed t port event-at k j p q in
        turn-paid i t (joined t k j l) a (Verdict.code_of l.paid) h r
        (ap (joined t k j) e ∙ f.table)
        (ap Verdict.code_of (ap (λ (x : Acted). x.paid) e ∙ f.value))

  ends : (i : ℕ) (t : Table) (a : List ℕ) → n ≤ i → Running xs n t₀ a₀ i t a
      → (t ≡ ran t₀ (orders n xs)) × (a ≡ sets a₀ 0 (codes t₀ (orders n xs)))
  unfolding ran codes orders
  ends i t a h r =
      let e : n - i ≡ 0 = omega arith in
      (rw e at r.table, rw e at r.text)

  -- the run's end: on a good table m orders were carried out, on a bad one none
  pub run_ends : (m : ℕ) (sound : Bool) (bad : Fault) → sound ≡ good t₀ → bad ≡ bad_in t₀ → n ≡ cond sound m 0
      → (i : ℕ) (t : Table) (a : List ℕ) (w : Answer) → w ≡ cond sound Done (BadTable bad) → n ≤ i → Running xs n t₀ a₀ i t a
      → (record { table = t; answer = w } ≡ run t₀ (orders m xs)) × (a ≡ run_answers t₀ (orders m xs) a₀)
  unfolding run run_answers ran codes orders
  run_ends m true bad g b e i t a w f h r =
      let z = ends i t a h r in
      (rw (← g, f, z.0, e), rw (← g, z.1, e))
  run_ends m false bad g b e i t a w f h r =
      let z = ends i t a h r in
      (rw (← g, f, b, z.0, e), rw (← g, z.1, e))

-- a bad table is left as it is
pub run-refused : (t : Table) (f : Fault) (os : List Order) (places : List ℕ) → Some f ≡ found (bad_in t)
    → (record { table = t; answer = BadTable f } ≡ run t os) × (places ≡ run_answers t os places)
unfolding run run_answers
run-refused t f os places h =
    let b = some-bad t f h in
    (rw (b.0, b.1), rw b.0)
