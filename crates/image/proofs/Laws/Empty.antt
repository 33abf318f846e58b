-- What a good table keeps for ports at or above D is 0.
use Rattle.std.specs.Prelude.{◌≡◌, true, ◌&&◌, [], ◌∷◌, ℕ, ◌≤◌, ◌<◌}
use Rattle.std.proofs.Common.{sym, ◌∙◌, le-ltb, eqb-true}
use Rattle.std.proofs.Math.Bool.{and-eq-true_iff}
use Rattle.model.specs.declared.Port.{Port}
use Rattle.model.specs.declared.Copies.{Copies}
use Rattle.model.specs.declared.Table.{Table}
use Rattle.model.specs.Table.{room, no_port, no_copies, port_at, copies_at, size_good}
use Rattle.model.specs.Good.{every_below, good}
use Rattle.model.specs.Parts.Good.{shared_good, port_empty, place_good, all_good}
use Rattle.model.proofs.Laws.Tests.{conjunct, every-below}
use Rattle.model.proofs.Laws.Listed.{good-all}

empty-place : (t : Table) → good t ≡ true → (k : ℕ) → t.shared.d ≤ k → k < room → port_empty (port_at t k) (copies_at t k) ≡ true
unfolding all_good place_good
empty-place t g k h l =
    let places = ((and-eq-true_iff (size_good t.shared.d && shared_good t.shared _) (every_below room (place_good t))).0 (sym (good-all t) ∙ g)).1 in
    rw (le-ltb k t.shared.d h) at (every-below room (place_good t) places k l)

-- a port and copy sets whose fields are all 0
zero-port : (own seenspin candidatespin seenowner candidate made go point status flag value : ℕ) → point ≡ 0 → status ≡ 0 → flag ≡ 0 → value ≡ 0 → made ≡ 0 → go ≡ 0
    → own ≡ 0 → seenowner ≡ 0 → seenspin ≡ 0 → candidate ≡ 0 → candidatespin ≡ 0
    → ◌≡◌ {A = Port}
    (record {
      work = record { own = own; seenspin = seenspin; candidatespin = candidatespin; seenowner = seenowner; candidate = candidate };
      made = made;
      go = go;
      point = point;
      status = status;
      flag = flag;
      value = value;
    })
    no_port
zero-port own seenspin candidatespin seenowner candidate made go point status flag value a b c d e f g h i j k = rw (a, b, c, d, e, f, g, h, i, j, k)

zero-copies : (status go spin : ℕ) → status ≡ 0 → go ≡ 0 → spin ≡ 0 → ◌≡◌ {A = Copies} (record { status = status; go = go; spin = spin }) no_copies
zero-copies status go spin a b c = rw (a, b, c)

empty-is-zero : (p : Port) (c : Copies) → port_empty p c ≡ true → (p ≡ no_port) × (c ≡ no_copies)
unfolding port_empty
empty-is-zero p c e =
    let q = conjunct _ (_ ∷ _ ∷ _ ∷ _ ∷ _ ∷ _ ∷ _ ∷ _ ∷ _ ∷ _ ∷ _ ∷ _ ∷ _ ∷ []) e in (
      zero-port p.work.own p.work.seenspin p.work.candidatespin p.work.seenowner p.work.candidate p.made p.go p.point p.status
          p.flag
          p.value
          (eqb-true _ _ (q 0))
          (eqb-true _ _ (q 1))
          (eqb-true _ _ (q 2))
          (eqb-true _ _ (q 3))
          (eqb-true _ _ (q 4))
          (eqb-true _ _ (q 5))
          (eqb-true _ _ (q 6))
          (eqb-true _ _ (q 7))
          (eqb-true _ _ (q 8))
          (eqb-true _ _ (q 9))
          (eqb-true _ _ (q 10)),
      zero-copies c.status c.go c.spin (eqb-true _ _ (q 11)) (eqb-true _ _ (q 12)) (eqb-true _ _ (q 13)),
    )

pub empty-above : (t : Table) → good t ≡ true → (k : ℕ) → t.shared.d ≤ k → k < room → (port_at t k ≡ no_port) × (copies_at t k ≡ no_copies)
empty-above t g k h l = empty-is-zero (port_at t k) (copies_at t k) (empty-place t g k h l)
