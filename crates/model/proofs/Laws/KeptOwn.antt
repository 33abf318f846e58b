-- The stepping port: what a step leaves of its own record, of ACTIVE and of the word, in one case over the points.
use Rattle.std.specs.Prelude.{◌≡◌, Bool, true, false, cond, ◌&&◌, ℕ, ◌+◌, ◌^◌, ◌≤◌, ◌<◌, eqb}
use Rattle.std.proofs.Math.Path.{refl}
use Rattle.std.proofs.Common.{◌∙◌, ap, arith}
use Rattle.std.proofs.Math.Bool.{and-eq-true_iff}
use Rattle.std.proofs.Math.Dec.{ltb}
use Rattle.model.specs.declared.Word.{Word}
use Rattle.model.specs.declared.Port.{Port}
use Rattle.model.specs.declared.Table.{Table}
use Rattle.model.specs.declared.View.{View}
use Rattle.model.specs.Table.{most, CS, EXIT, port_at, read_spin}
use Rattle.model.specs.Mask.{stands}
use Rattle.model.specs.Points.{Tens, two, three, four, Point, none, p0, p1, p2, p3, p4, p5, p6, p8, p9, p10, p11, p12, p13, p14, p15, p16, p17, p18, p19, x0, x1, x2, x3, x4, x5, tens, back, point_of, one_of, candidate_spin_place}
use Rattle.model.specs.Good.{named, good}
use Rattle.model.specs.Step.{at, same, swapped, unasked}
use Rattle.model.specs.Parts.Moves.{up, bit, released, granted, step}
use Rattle.model.specs.Parts.Charges.{touch_at}
use Rattle.model.specs.Parts.Steps.{home_of, move_of}
use Rattle.model.proofs.Laws.Tests.{split}
use Rattle.model.proofs.Laws.Mask.{set_other, set_below, cleared-other, cleared-below}
use Rattle.model.proofs.Laws.Ring.{next-below}
use Rattle.model.proofs.Laws.Rules.{PortRules, port-rules}
use Rattle.model.proofs.Laws.Own.{number_of_point, number, sight_of, move_at, home_at}
use Rattle.model.proofs.Laws.Sound.{made_of, WordBounds, Bounds, Enters, Sound, good-sound}

-- what a step of port k leaves: its record, not yet settled, with ACTIVE and the word; made does not fall, and no other bit of ACTIVE changes
pub record Moved (t : Table) (k : ℕ) (p : Port) (active : ℕ) (w : Word) : Type 0 where
  pub bounds : Bounds t.shared.d (made_of t) p
  pub grows : made_of t k ≤ p.made
  pub enters : Enters (stands active k) p.point p.flag p.work.seenspin
  pub bits : active < 2 ^ t.shared.d
  pub others : (j : ℕ) → (j ≡ k → ⊥) → stands active j ≡ stands t.shared.active j
  pub word : WordBounds t.shared.d (made_of t) w

-- a point at which the rules ask nothing, and one of two such points; what holds at a point of each of the three promotions
abbrev Free : ℕ → Type 0
Free n = (bit : Bool) (flag seenspin : ℕ) → Enters bit n flag seenspin

either : (b : Bool) (m n : ℕ) → Free m → Free n → Free (cond b m n)
either true m n p q = p
either false m n p q = q

each : (P : ℕ → Type 0) (f : Tens → ℕ) → P (f two) → P (f three) → P (f four) → (x : Tens) → P (f x)
each P f p q r two = p
each P f p q r three = q
each P f p q r four = r

-- from 5 and from 14 a port goes on by its own bit, and from x4 to x5 with a seen spin above 0
by_bit : (bit : Bool) (flag seenspin : ℕ) → Enters bit (cond bit 20 6) flag seenspin × Enters bit (cond bit 15 16) flag seenspin
unfolding one_of named
by_bit true f n = (search, search)
by_bit false f n = (search, search)

above_zero : (x : Tens) (bit : Bool) (flag n : ℕ) → ltb 0 n ≡ true → Enters bit (tens x + 5) flag n
unfolding one_of named tens
above_zero x bit flag n e = each (λ (m : ℕ). Enters bit m flag n) (λ x. tens x + 5) (search) (search) (search) x

module _ (t : Table) (k : ℕ) (s : Sound t) (b : Bounds t.shared.d (made_of t) (port_at t k)) (r : PortRules t k) where
  -- a step that changes its own record alone; and goes to a point that is free; and changes nothing else
  changes : (p : Port) → Bounds t.shared.d (made_of t) p × (made_of t k ≤ p.made)
      → Enters (stands t.shared.active k) p.point p.flag p.work.seenspin → Moved t k p t.shared.active t.shared.word
  changes p b e =
      record { bounds = b.0; grows = b.1; enters = e; bits = s.bits; others = λ j n. refl; word = s.word }

  leads : (p : Port) → Bounds t.shared.d (made_of t) p × (made_of t k ≤ p.made) → Free p.point
      → Moved t k p t.shared.active t.shared.word
  leads p b f = changes p b (f _ _ _)

  goes : (n : ℕ) → Free n → Moved t k (at n (port_at t k)) t.shared.active t.shared.word
  goes n = leads (at n (port_at t k)) (omega arith)

  -- a step that changes its bit in ACTIVE, and one that compares and swaps the word
  marks : (n active : ℕ) → Free n → active < 2 ^ t.shared.d
      → ((j : ℕ) → (j ≡ k → ⊥) → stands active j ≡ stands t.shared.active j) → Moved t k (at n (port_at t k)) active t.shared.word
  marks n active f l o =
      record { bounds = omega arith; grows = omega arith; enters = f _ _ _; bits = l; others = o; word = s.word }

  swaps : (n : ℕ) (old new : Word) → Free n → WordBounds t.shared.d (made_of t) new
      → Moved t k (at n (port_at t k)) t.shared.active (swapped t.shared.word old new)
  unfolding swapped
  swaps n old new f w =
      split (Moved t k (at n (port_at t k)) t.shared.active) (same t.shared.word old) new t.shared.word
      (λ q. record { bounds = omega arith; grows = omega arith; enters = f _ _ _; bits = s.bits; others = λ j n. refl; word = w })
      (λ q. goes n f)

  -- what port k sees: GO that it reads at x2 is at most its candidate's made
  abbrev seen : View
  seen = sight_of t k (port_at t (home_of t k)).go

  candidate-go : (x : Tens) → point_of (port_at t k).point ≡ x2 x → (port_at t (home_of t k)).go ≤ made_of t (port_at t k).work.candidate
  unfolding touch_at
  candidate-go x e = rw (home_at t k (x2 x) e) (s.port (port_at t k).work.candidate b.candidate).bounds.go

  -- at x1 the candidate spin is still 0, and so where ACTIVE is 0 the port itself can be candidate
  candidate-spin : (x : Tens) → point_of (port_at t k).point ≡ x1 x → (port_at t k).work.candidatespin ≡ 0
  unfolding number_of_point tens candidate_spin_place one_of
  candidate-spin x e =
      r.no_candidatespin
      (ap candidate_spin_place (number _ (x1 x) r.point e)
      ∙ each (λ (n : ℕ). candidate_spin_place n ≡ false) (λ x. tens x + 1) refl refl refl x)

  by-tens : (x : Tens) → k < t.shared.d → (port_at t k).work.candidatespin ≡ 0 → Moved t k (unasked x seen.k seen.own) t.shared.active t.shared.word
  unfolding unasked one_of named
  by-tens two h z = goes 24 (search)
  by-tens three h z = leads _ (omega arith) (search)
  by-tens four h z = goes 44 (search)

  module _ (h : k < t.shared.d) (w : t.shared.d ≤ 64) (u : (port_at t k).point ≡ 4 → made_of t k ≡ most → ⊥) where
    -- one clause for each point
    step-moved : (q : Point) → point_of (port_at t k).point ≡ q → Moved t k (step q seen).own (step q seen).active (step q seen).word
    unfolding step number_of_point one_of named tens back released granted
    step-moved none e = changes _ (omega arith) (s.port k h).enters
    step-moved p0 e = changes _ (omega arith) (s.port k h).enters
    step-moved p1 e =
        goes _ (either (eqb (port_at t k).status CS) 11 _ (search) (either (eqb (port_at t k).status EXIT) 13 2 (search) (search)))
    step-moved p2 e = goes _ (either (up seen) 12 3 (search) (search))
    step-moved p3 e = leads _ (omega arith) (either (eqb (port_at t k).go 0) 4 5 (search) (search))
    step-moved p4 e = let n = u (number _ p4 r.point e) in leads _ (omega arith) (search)
    step-moved p5 e = changes _ (omega arith) (by_bit (bit seen) _ _).0
    step-moved p6 e =
        let clear = r.clear (number _ p6 r.point e) in
        marks _ _ (search) (set_below h w s.bits clear) (λ j. set_other h w s.bits clear)
    step-moved p8 e = goes _ (either (eqb (read_spin (port_at t k) (port_at t k).work.own) 1) 10 9 (search) (search))
    step-moved p9 e = goes _ (either (up seen) 12 8 (search) (search))
    step-moved p10 e = leads _ (omega arith) (search)
    step-moved p11 e = changes _ (omega arith) (s.port k h).enters
    step-moved p12 e = leads _ (omega arith) (search)
    step-moved p13 e = leads _ (omega arith) (search)
    step-moved p14 e = changes _ (omega arith) (by_bit (bit seen) _ _).1
    step-moved p15 e =
        let set = r.set (number _ p15 r.point e) in
        marks _ _ (search) (cleared-below h w s.bits set) (λ j. cleared-other h w s.bits set)
    step-moved p16 e = leads _ (omega arith) (search)
    step-moved p17 e = swaps _ _ _ (search) (omega arith)
    step-moved p18 e = leads _ (omega arith) (search)
    step-moved p19 e = changes _ (omega arith) (search)
    step-moved (x0 x) e =
        leads _ (omega arith)
        (split (λ (c : ℕ). Free (tens x + c)) (eqb t.shared.word.taken 1) 4 1
        (λ q. each Free (λ x. tens x + 4) (search) (search) (search) x)
        (λ q. each Free (λ x. tens x + 1) (search) (search) (search) x))
    step-moved (x1 x) e =
        let z = candidate-spin x e in
        split (λ (p : Port). Moved t k p t.shared.active t.shared.word) (eqb t.shared.active 0) _ _
        (λ q. by-tens x h z)
        (λ q. leads _ (omega (arith, next-below t.shared.active b.seenowner))
        (each Free (λ x. tens x + 2) (search) (search) (search) x))
    step-moved (x2 x) e = leads _ (omega (arith, candidate-go x e)) (each Free (λ x. tens x + 3) (search) (search) (search) x)
    step-moved (x3 x) e = swaps _ _ _ (each Free (λ x. tens x + 4) (search) (search) (search) x) (omega arith)
    step-moved (x4 x) e =
        split (λ (p : Port). Moved t k p t.shared.active t.shared.word)
        (eqb t.shared.word.taken 1 && ltb 0 t.shared.word.spin)
        _
        _
        (λ q. changes _ (omega arith) (above_zero x _ _ _ ((and-eq-true_iff (eqb t.shared.word.taken 1) _).0 q).1))
        (λ q. goes _ (each Free back (search) (search) (search) x))
    step-moved (x5 x) e = goes _ (each Free back (search) (search) (search) x)

-- a step of port k on a good table
pub moved : (t : Table) (k : ℕ) → good t ≡ true → k < t.shared.d → t.shared.d ≤ 64 → ((port_at t k).point ≡ 4 → made_of t k ≡ most → ⊥)
    → Moved t k (move_of t k).own (move_of t k).active (move_of t k).word
moved t k g h w u =
    let s = good-sound t g in
    rw (move_at t k (point_of (port_at t k).point) refl)
    (step-moved t k s (s.port k h).bounds (port-rules t k g h) h w u (point_of (port_at t k).point) refl)
