-- The rules of a good table as a list, and by record: the same tests pass.
use Rattle.std.specs.Prelude.{◌≡◌, refl, Bool, true, false, not, ◌&&◌, ℕ, zero, suc, ◌<◌, eqb, leb, ltb, get_or}
use Rattle.std.proofs.Common.{sym, ap, ◌∙◌, arith, lt-ltb, le-ltb, leb-true}
use Rattle.std.proofs.Math.Bool.{and-eq-true_iff, and_assoc, and-true, or-true}
use mathlib.Core.List.{List, [], ◌∷◌, ◌++◌, foldr, map}
use Rattle.std.proofs.Math.Decide.{dec_lt}
use Rattle.model.specs.declared.Port.{Port}
use Rattle.model.specs.declared.Copies.{Copies}
use Rattle.model.specs.declared.Table.{Table}
use Rattle.model.specs.Table.{room, size_good, port_at, copies_at}
use Rattle.model.specs.Layout.{port_values, copies_values}
use Rattle.model.specs.Good.{every_below, Rule, place_empty, room_empty, spin_good, shared_rules, field_rules, work_rules, copy_rules, ports_rules, rules, passed, good}
use Rattle.model.specs.Parts.Listed.{rules_at}
use Rattle.model.specs.Parts.Good.{shared_good, fields_good, work_good, copies_good, port_empty, port_good, place_good, all_good}
use Rattle.model.proofs.Laws.Tests.{conjunct, every-below, below-every, ◌and◌}

abbrev pub start_rules : Table → List Rule
start_rules t = shared_rules (room_empty t) t.shared (port_at t t.shared.word.owner).made

-- one of a list of rules that pass
pub each : (rs : List Rule) → passed rs ≡ true → (i : ℕ) → get_or (map (λ (r : Rule). r.0) rs) i true ≡ true
unfolding passed
each [] e i = refl
each (r ∷ rs) e zero = ((and-eq-true_iff r.0 (passed rs)).0 e).0
each (r ∷ rs) e (suc i) = each rs ((and-eq-true_iff r.0 (passed rs)).0 e).1 i

pub passed-append : (qs rs : List Rule) → passed (qs ++ rs) ≡ (passed qs && passed rs)
unfolding passed
passed-append [] rs = refl
passed-append (q ∷ qs) rs = ap (λ (b : Bool). q.0 && b) (passed-append qs rs) ∙ sym (and_assoc q.0 (passed qs) (passed rs))

pub passed-ports : (t : Table) (n : ℕ) → passed (ports_rules t n) ≡ every_below n (λ k. passed (rules_at t k))
unfolding ports_rules every_below passed
passed-ports t zero = refl
passed-ports t (suc n) = passed-append (ports_rules t n) (rules_at t n) ∙ ap (λ (b : Bool). b && passed (rules_at t n)) (passed-ports t n)

-- each of them by itself
abbrev Hold : List Rule → Type 0
Hold [] = Unit {0}
Hold (r ∷ rs) = (r.0 ≡ true) × Hold rs

hold-passed : (rs : List Rule) → Hold rs → passed rs ≡ true
unfolding passed
hold-passed [] h = refl
hold-passed (r ∷ rs) h = (and-eq-true_iff r.0 (passed rs)).1 (h.0, hold-passed rs h.1)

-- two tests that pass together are one
pub same_tests : (a b : Bool) → (a ≡ true → b ≡ true) → (b ≡ true → a ≡ true) → a ≡ b
same_tests true b f g = sym (f refl)
same_tests false true f g = g refl
same_tests false false f g = refl

-- a spin number of a port that there is
spin-made : (d j n made : ℕ) → ltb j d ≡ true → spin_good d j n made ≡ true → leb n made ≡ true
unfolding spin_good
spin-made d j n made l e = rw l at e

made-spin : (d j n made : ℕ) → leb n made ≡ true → spin_good d j n made ≡ true
unfolding spin_good
made-spin d j n made e = rw (e, or-true (not (ltb j d)))

port-there : (t : Table) (k : ℕ) → port_good t k ≡ true → passed (rules_at t k) ≡ true
unfolding field_rules work_rules copy_rules fields_good work_good copies_good
port-there t k e =
    let groups = conjunct _ (_ ∷ _ ∷ []) e in
    let f = conjunct _ (_ ∷ _ ∷ _ ∷ _ ∷ _ ∷ _ ∷ _ ∷ _ ∷ _ ∷ []) (groups 0) in
    let w = conjunct _ (_ ∷ _ ∷ _ ∷ _ ∷ _ ∷ _ ∷ _ ∷ _ ∷ _ ∷ _ ∷ []) (groups 1) in
    let c = conjunct _ (_ ∷ _ ∷ _ ∷ []) (groups 2) in
    hold-passed (rules_at t k) (
      f 0,
      (
        f 7,
        (
          f 8,
          (
            f 1,
            (
              f 2,
              (
                f 6,
                (
                  f 3,
                  (
                    f 4,
                    (
                      f 9,
                      (
                        f 5,
                        (
                          w 2,
                          (
                            w 6,
                            (
                              w 0,
                              (
                                w 7,
                                (
                                  w
                                      8,
                                  (
                                    w 5,
                                    (
                                      made-spin t.shared.d _ _ _ (w 3),
                                      (
                                        w 1,
                                        (
                                          w 9,
                                          (
                                            w 10,
                                            (
                                              made-spin t.shared.d _ _ _ (w 4),
                                              (
                                                c 0,
                                                (
                                                  c 1,
                                                  (
                                                    c 2,
                                                    (
                                                      c 3,
                                                      tt,
                                                    ),
                                                  ),
                                                ),
                                              ),
                                            ),
                                          ),
                                        ),
                                      ),
                                    ),
                                  ),
                                ),
                              ),
                            ),
                          ),
                        ),
                      ),
                    ),
                  ),
                ),
              ),
            ),
          ),
        ),
      ),
    )

port-back : (t : Table) (k : ℕ) → passed (rules_at t k) ≡ true → port_good t k ≡ true
unfolding field_rules work_rules copy_rules fields_good work_good copies_good
port-back t k e =
    let r = each (rules_at t k) e in
    (r 0 and r 3 and r 4 and r 6 and r 7 and r 9 and r 5 and r 1 and r 2 and r 8)
    and (r 12 and r 17 and r 10 and spin-made t.shared.d _ _ _ (r 12) (r 16) and spin-made t.shared.d _ _ _ (r 17) (r 20) and r 15
    and r 11 and r 13 and r 14 and r 18 and r 19)
    and (r 21 and r 22 and r 23 and r 24)

pub port-listed : (t : Table) (k : ℕ) → port_good t k ≡ passed (rules_at t k)
port-listed t k = same_tests (port_good t k) (passed (rules_at t k)) (port-there t k) (port-back t k)

-- room that is empty, in both ways
pub empty-listed : (p : Port) (c : Copies) → port_empty p c ≡ foldr ◌&&◌ true (map (λ v. eqb v 0) (port_values p ++ copies_values c))
unfolding port_empty port_values copies_values
empty-listed p c = simp (and_assoc, and-true)

-- the tests of a table: its size and its room, what all share, its ports
parted : (t : Table) → good t ≡ (passed (start_rules t) && every_below t.shared.d (λ k. passed (rules_at t k)))
unfolding good rules
parted t =
    passed-append (start_rules t) (ports_rules t t.shared.d) ∙ ap (λ (b : Bool). passed (start_rules t) && b) (passed-ports t t.shared.d)

place-there : (t : Table) → room_empty t ≡ true → every_below t.shared.d (λ k. passed (rules_at t k)) ≡ true → (k : ℕ) → k < room → place_good t k ≡ true
unfolding place_empty place_good
place-there t f g k h = elim (dec_lt k t.shared.d) [
  | yes l ↦ rw (lt-ltb k t.shared.d l) (port-listed t k ∙ every-below t.shared.d (λ k. passed (rules_at t k)) g k l)
  | no l ↦
      let z = le-ltb k t.shared.d (omega arith) in
      rw z (empty-listed (port_at t k) (copies_at t k)
      ∙ (rw z at (every-below room (place_empty t) f k h)))
]

place-back : (t : Table) → ((k : ℕ) → k < room → place_good t k ≡ true) → room_empty t ≡ true
unfolding place_empty place_good
place-back t f = below-every room (place_empty t) (λ k h. elim (dec_lt k t.shared.d) [
  | yes l ↦ rw (lt-ltb k t.shared.d l)
  | no l ↦
      let z = le-ltb k t.shared.d (omega arith) in
      rw z (sym (empty-listed (port_at t k) (copies_at t k)) ∙ (rw z at (f k h)))
])

good-there : (t : Table) → good t ≡ true → all_good t ≡ true
unfolding all_good shared_good shared_rules
good-there t e =
    let q = (and-eq-true_iff (passed (start_rules t)) (every_below t.shared.d (λ k. passed (rules_at t k)))).0 (sym (parted t) ∙ e) in
    let r = each (start_rules t) q.0 in
    r 0
    and (r 3 and r 2 and r 6 and r 7 and r 4 and spin-made t.shared.d _ _ _ (r 4) (r 5))
    and below-every room (place_good t) (place-there t (r 1) q.1)

room-port : (d k : ℕ) → k < d → size_good d ≡ true → k < room
unfolding size_good
room-port d k l g = omega (arith, leb-true d room ((and-eq-true_iff (leb 1 d) (leb d room)).0 g).1)

good-back : (t : Table) → all_good t ≡ true → good t ≡ true
unfolding all_good shared_good place_good shared_rules
good-back t e =
    let groups = conjunct _ (_ ∷ _ ∷ []) e in
    let s = conjunct _ (_ ∷ _ ∷ _ ∷ _ ∷ _ ∷ []) (groups 1) in
    let places = every-below room (place_good t) (groups 2) in
    parted t
    ∙ (hold-passed (start_rules t)
    (groups 0, (place-back t places, (s 1, (s 0, (s 4, (made-spin t.shared.d _ _ _ (s 5), (s 2, (s 3, tt))))))))
    and below-every t.shared.d _ (λ k l. sym (port-listed t k) ∙ (rw (lt-ltb k t.shared.d l) at (places k (room-port t.shared.d k l (groups 0))))))

pub good-all : (t : Table) → good t ≡ all_good t
good-all t = same_tests (good t) (all_good t) (good-there t) (good-back t)
