-- The check of a table as the code makes it: port by port, from what a port holds and two numbers, and then all that is kept above D joined bit by bit.
use Rattle.std.specs.Prelude.{◌≡◌, refl, Bool, true, false, cond, not, ◌&&◌, ◌||◌, ℕ, zero, suc, ◌+◌, ◌≤◌, ◌<◌, leb, ltb, eqb, length, get_or}
use Rattle.std.proofs.Common.{sym, ap, ◌∙◌, true≢false, add-one, lt_of_lt_of_le, le_antisymm, arith, ltb-true, lt-ltb, le-ltb, leb-true, le-leb, eqb-true, eq-eqb}
use Rattle.std.proofs.Math.Bool.{and_comm, and-false, and_assoc, and-eq-true_iff}
use mathlib.Core.List.{List, [], ◌∷◌, ◌++◌, foldl}
use Rattle.std.specs.Int.Bits.{bit_or, or_add_and}
use Rattle.std.proofs.lemmas.Nat.{and_le_l, and_le_r}
use Rattle.model.specs.declared.Fault.{Fault}
use Rattle.model.specs.declared.Work.{Work}
use Rattle.model.specs.declared.Port.{Port}
use Rattle.model.specs.declared.Copies.{Copies}
use Rattle.model.specs.declared.Shared.{Shared}
use Rattle.model.specs.declared.Table.{Table}
use Rattle.model.specs.Table.{room, port_at, copies_at, size_good}
use Rattle.model.specs.Points.{one_of, own_place, seen_place, candidate_place, candidate_spin_place}
use Rattle.model.specs.Good.{Rule, every_below, implies, place_empty, room_empty, spin_good, shared_rules, work_rules, port_rules, ports_rules, rules, nowhere, lower, bad_in}
use Rattle.model.specs.Parts.Good.{fields_good, work_good, copies_good, shared_good, port_empty, port_good}
use Rattle.model.specs.Parts.Rules.{own_tests, unseen_tests, seen_tests, port_tests, joined_port, ports_of, slot_of}
use Rattle.model.proofs.Laws.Tests.{conjunct, below-every}
use Rattle.model.specs.Parts.Listed.{rules_at}
use Rattle.model.proofs.Laws.Listed.{start_rules, same_tests, empty-listed, port-listed}
use Rattle.model.proofs.Laws.Faults.{bad-append, none-bad, whole-first, bad-whole}

-- numbers joined bit by bit are 0 where each of them is
pub or-none : (a b : ℕ) → eqb (bit_or a b) 0 ≡ (eqb a 0 && eqb b 0)
or-none a b = same_tests (eqb (bit_or a b) 0) (eqb a 0 && eqb b 0) there back
  where
    there : eqb (bit_or a b) 0 ≡ true → (eqb a 0 && eqb b 0) ≡ true
    there e =
        let z = eqb-true (bit_or a b) 0 e in
        let x : a ≡ 0 = omega (arith, z, or_add_and a b, and_le_r a b) in
        let y : b ≡ 0 = omega (arith, z, or_add_and a b, and_le_l a b) in
        rw (eq-eqb a 0 x, eq-eqb b 0 y)

    back : (eqb a 0 && eqb b 0) ≡ true → eqb (bit_or a b) 0 ≡ true
    back e =
        let q = (and-eq-true_iff (eqb a 0) (eqb b 0)).0 e in
        let x = eqb-true a 0 q.0 in
        let y = eqb-true b 0 q.1 in
        eq-eqb (bit_or a b) 0 (omega (arith, x, y, or_add_and a b))

and_left : (a b c : Bool) → (a && (b && c)) ≡ (b && (a && c))
and_left true b c = refl
and_left false b c = sym (and-false b)

pub joined-empty : (p : Port) (c : Copies) → eqb (joined_port p c) 0 ≡ port_empty p c
unfolding joined_port port_empty
joined-empty p c = simp (or-none, and_assoc, and_comm, and_left)

-- a number that is none of a list is none of its numbers
unlisted : (n : ℕ) (ns : List ℕ) → one_of n ns ≡ false → (i : ℕ) → i < length ns → eqb n (get_or ns i 0) ≡ false
unfolding one_of
unlisted n [] e i h = absurd (omega (arith, h))
unlisted n (m ∷ ms) e i h = go (eqb n m) refl e i h (λ q j l. unlisted n ms q j l)
  where
    go : (b : Bool) → eqb n m ≡ b → (b || one_of n ms) ≡ false → (i : ℕ) → i < suc (length ms)
        → (one_of n ms ≡ false → (j : ℕ) → j < length ms → eqb n (get_or ms j 0) ≡ false) → eqb n (get_or (m ∷ ms) i 0) ≡ false
    go true p q i l f = absurd (true≢false q)
    go false p q zero l f = p
    go false p q (suc i) l f = f q i (omega (arith, l))

-- where nothing is seen there is no candidate, and no seen spin is to be set
unseen : (n : ℕ) → seen_place n ≡ false → (candidate_place n ≡ false) × (candidate_spin_place n ≡ false) × (one_of n (25 ∷ 35 ∷ 45 ∷ []) ≡ false)
unfolding seen_place candidate_place candidate_spin_place one_of
unseen n e =
    let q = unlisted n (21 ∷ 22 ∷ 23 ∷ 25 ∷ 31 ∷ 32 ∷ 33 ∷ 35 ∷ 41 ∷ 42 ∷ 43 ∷ 45 ∷ []) e in
    let a = q 1 (omega arith) in
    let b = q 2 (omega arith) in
    let c = q 5 (omega arith) in
    let d = q 6 (omega arith) in
    let f = q 9 (omega arith) in
    let g = q 10 (omega arith) in
    (rw (a, b, c, d, f, g), rw (b, d, g), rw (q 3 (omega arith), q 7 (omega arith), q 11 (omega arith)))

-- the rules for a port, whichever way they are put together
unseen-work : (d point made a b : ℕ) (w : Work) → seen_place point ≡ false
    → (unseen_tests d w && leb w.own made && implies (not (own_place point)) (eqb w.own 0)) ≡ work_good d point made a b w
unfolding unseen_tests work_good
unseen-work d point made a b w e = same_tests _ _ there back
  where
    none : (candidate_place point ≡ false) × (candidate_spin_place point ≡ false) × (one_of point (25 ∷ 35 ∷ 45 ∷ []) ≡ false)
    none = unseen point e

    there : (unseen_tests d w && leb w.own made && implies (not (own_place point)) (eqb w.own 0)) ≡ true → work_good d point made a b w ≡ true
    there h =
        let q = conjunct _ (_ ∷ _ ∷ _ ∷ _ ∷ _ ∷ _ ∷ []) h in
        let z : ltb 0 d ≡ true = q 0 in
        let so : w.seenowner ≡ 0 = eqb-true _ _ (q 1) in
        let ca : w.candidate ≡ 0 = eqb-true _ _ (q 2) in
        let ss : w.seenspin ≡ 0 = eqb-true _ _ (q 3) in
        let cs : w.candidatespin ≡ 0 = eqb-true _ _ (q 4) in
        let x : leb w.own made ≡ true = q 5 in
        let y : implies (not (own_place point)) (eqb w.own 0) ≡ true = q 6 in
        rw (e, none.0, none.1, none.2, so, ca, ss, cs, z, x, y, le-leb 0 a (omega arith), le-leb 0 b (omega arith))

    back : work_good d point made a b w ≡ true → (unseen_tests d w && leb w.own made && implies (not (own_place point)) (eqb w.own 0)) ≡ true
    back h =
        let q = conjunct _ (_ ∷ _ ∷ _ ∷ _ ∷ _ ∷ _ ∷ _ ∷ _ ∷ _ ∷ _ ∷ []) (rw (e, none.0, none.1, none.2) at h) in
        let l : ltb w.seenowner d ≡ true = q 0 in
        let z : ltb 0 d ≡ true = lt-ltb 0 d (omega (arith, ltb-true w.seenowner d l)) in
        let so : eqb w.seenowner 0 ≡ true = q 7 in
        let ca : eqb w.candidate 0 ≡ true = q 9 in
        let ss : eqb w.seenspin 0 ≡ true = q 8 in
        let cs : eqb w.candidatespin 0 ≡ true = q 10 in
        let x : leb w.own made ≡ true = q 2 in
        let y : implies (not (own_place point)) (eqb w.own 0) ≡ true = q 6 in
        rw (z, so, ca, ss, cs, x, y)

regroup : (f c x y u : Bool) → (f && c && x && y && u) ≡ (f && (u && x && y) && c)
regroup f c x y u = simp (and_assoc, and_comm, and_left)

seen-work : (d point made a b : ℕ) (w : Work) → seen_place point ≡ true
    → (seen_tests d point a b w && leb w.own made && implies (not (own_place point)) (eqb w.own 0)) ≡ work_good d point made a b w
unfolding seen_tests work_good
seen-work d point made a b w e = simp (e, and_assoc, and_comm, and_left)

pub port-whole : (s : Shared) (k : ℕ) (p : Port) (c : Copies) (a b : ℕ)
    → port_tests s k p c a b ≡ (fields_good s.active k p && work_good s.d p.point p.made a b p.work && copies_good s.d p.made c)
unfolding port_tests own_tests
port-whole s k p c a b = go (seen_place p.point) refl
  where
    all : (u : Bool) → (u && leb p.work.own p.made && implies (not (own_place p.point)) (eqb p.work.own 0)) ≡ work_good s.d p.point p.made a b p.work
        → (own_tests s k p c && u) ≡ (fields_good s.active k p && work_good s.d p.point p.made a b p.work && copies_good s.d p.made c)
    all u e =
        regroup (fields_good s.active k p) (copies_good s.d p.made c) (leb p.work.own p.made) _ u
        ∙ ap (λ (w : Bool). fields_good s.active k p && w && copies_good s.d p.made c) e

    go : (x : Bool) → seen_place p.point ≡ x → port_tests s k p c a b
        ≡ (fields_good s.active k p && work_good s.d p.point p.made a b p.work && copies_good s.d p.made c)
    go true e = rw e (all _ (seen-work s.d p.point p.made a b p.work e))
    go false e = rw e (all _ (unseen-work s.d p.point p.made a b p.work e))

-- made of a seen owner or a candidate matters only where that is below d
pub work-made : (d point made a a' b b' : ℕ) (w : Work) → (w.seenowner < d → a ≡ a') → (w.candidate < d → b ≡ b')
    → work_good d point made a b w ≡ work_good d point made a' b' w
unfolding work_good
work-made d point made a a' b b' w f g = go (ltb w.seenowner d) refl (ltb w.candidate d) refl
  where
    go : (x : Bool) → ltb w.seenowner d ≡ x → (y : Bool) → ltb w.candidate d ≡ y → work_good d point made a b w ≡ work_good d point made a' b' w
    go true p true q = rw (f (ltb-true _ _ p), g (ltb-true _ _ q))
    go true p false q = rw (p, q)
    go false p y q = rw p

-- the word's owner likewise
pub shared-made : (s : Shared) (a a' : ℕ) → (s.word.owner < s.d → a ≡ a') → shared_good s a ≡ shared_good s a'
unfolding shared_good
shared-made s a a' f = go (ltb s.word.owner s.d) refl
  where
    go : (x : Bool) → ltb s.word.owner s.d ≡ x → shared_good s a ≡ shared_good s a'
    go true p = rw (f (ltb-true _ _ p))
    go false p = rw (p, and-false)

-- D that is in range, and how many ports are tested then
pub size-good-fits : (d : ℕ) → size_good d ≡ true → (1 ≤ d) × (d ≤ room)
unfolding size_good
size-good-fits d e = let q = (and-eq-true_iff (leb 1 d) (leb d room)).0 e in (leb-true 1 d q.0, leb-true d room q.1)

all-ports : (d n : ℕ) → n ≡ ports_of d → size_good d ≡ true → n ≡ d
unfolding ports_of
all-ports d n e q = e ∙ rw q

some-ports : (d n i : ℕ) → n ≡ ports_of d → i < n → size_good d ≡ true
unfolding ports_of
some-ports d n i e h = go (size_good d) refl
  where
    go : (b : Bool) → size_good d ≡ b → size_good d ≡ true
    go true q = q
    go false q =
        let z : n ≡ 0 = e ∙ rw q in
        absurd (omega (arith, z, h))

-- the place of a port that a table has room for
pub slot-own : (k r : ℕ) → r ≡ slot_of k → k < room → r ≡ k
unfolding slot_of
slot-own k r e h = e ∙ rw (lt-ltb k room h)

-- room above D is empty up to place i, as far as `rest`, all that was found there joined, says so; where D is out of range it does not matter
abbrev pub EmptyTo : Table → ℕ → ℕ → Type 0
EmptyTo t i rest = size_good t.shared.d ≡ true → eqb rest 0 ≡ every_below i (place_empty t)

pub rest-starts : (t : Table) (n : ℕ) → n ≡ ports_of t.shared.d → EmptyTo t n 0
unfolding place_empty
rest-starts t n e g = sym (below-every n (place_empty t) (λ k l. rw (lt-ltb k t.shared.d (omega (arith, all-ports t.shared.d n e g, l)))))

pub rest-turn : (t : Table) (n i rest : ℕ) → n ≡ ports_of t.shared.d → n ≤ i → EmptyTo t i rest
    → EmptyTo t (i + 1) (bit_or rest (joined_port (port_at t i) (copies_at t i)))
unfolding every_below place_empty
rest-turn t n i rest e h r g =
    rw (
      or-none rest (joined_port (port_at t i) (copies_at t i)),
      joined-empty (port_at t i) (copies_at t i),
      add-one i,
      r g,
      le-ltb i t.shared.d (omega (arith, all-ports t.shared.d n e g, h)),
    )
    (ap (λ (b : Bool). every_below i (place_empty t) && b) (empty-listed (port_at t i) (copies_at t i)))

-- what is bad in the table as a whole, in what all share, and in the ports below i
abbrev pub bad_below : Table → ℕ → Fault
bad_below t i = foldl lower nowhere (start_rules t ++ ports_rules t i)

-- made of a port that there is not makes no difference
spin-any : (d j n a b : ℕ) → (j < d → a ≡ b) → spin_good d j n a ≡ spin_good d j n b
unfolding spin_good
spin-any d j n a b f = go (ltb j d) refl
  where
    go : (x : Bool) → ltb j d ≡ x → spin_good d j n a ≡ spin_good d j n b
    go true p = rw (f (ltb-true j d p))
    go false p = rw p

pub shared-any : (empty : Bool) (s : Shared) (a b : ℕ) → (s.word.owner < s.d → a ≡ b) → shared_rules empty s a ≡ shared_rules empty s b
unfolding shared_rules
shared-any empty s a b f = rw (spin-any s.d s.word.owner s.word.spin a b f)

pub port-any : (s : Shared) (k : ℕ) (p : Port) (c : Copies) (a a' b b' : ℕ) → (p.work.seenowner < s.d → a ≡ a') → (p.work.candidate < s.d → b ≡ b')
    → port_rules s k p c a b ≡ port_rules s k p c a' b'
unfolding work_rules
port-any s k p c a a' b b' f g =
    rw (spin-any s.d p.work.seenowner p.work.seenspin a a' f, spin-any s.d p.work.candidate p.work.candidatespin b b' g)

-- after the room and what all share, with made at the owner's slot
pub check-starts : (t : Table) (i rest o : ℕ) (bad : Fault) → room ≤ i → i ≤ room → EmptyTo t i rest → o ≡ slot_of t.shared.word.owner
    → bad ≡ foldl lower nowhere (shared_rules (eqb rest 0) t.shared (port_at t o).made) → bad ≡ bad_below t 0
unfolding ports_rules
check-starts t i rest o bad h l r e q = q ∙ go (size_good t.shared.d) refl ∙ sym (bad-append nowhere (start_rules t) [])
  where
    go : (b : Bool) → size_good t.shared.d ≡ b
        → foldl lower nowhere (shared_rules (eqb rest 0) t.shared (port_at t o).made) ≡ foldl lower nowhere (start_rules t)
    go true p =
        ap (λ (rs : List Rule). foldl lower nowhere rs)
        (ap (λ (b : Bool). shared_rules b t.shared (port_at t o).made) (r p ∙ ap (λ (n : ℕ). every_below n (place_empty t)) (le_antisymm l h))
        ∙ shared-any (room_empty t) t.shared (port_at t o).made (port_at t t.shared.word.owner).made
        (λ j. ap (λ (j : ℕ). (port_at t j).made) (slot-own t.shared.word.owner o e (lt_of_lt_of_le j (size-good-fits t.shared.d p).1))))
    go false p =
        whole-first (eqb rest 0) t.shared (port_at t o).made (rw p)
        ∙ sym (whole-first (room_empty t) t.shared (port_at t t.shared.word.owner).made (rw p))

-- after one more port
pub bad-turn : (t : Table) (i : ℕ) (bad : Fault) → bad ≡ bad_below t i → foldl lower bad (rules_at t i) ≡ bad_below t (i + 1)
unfolding ports_rules
bad-turn t i bad r =
    ap (λ (f : Fault). foldl lower f (rules_at t i)) (r ∙ bad-append nowhere (start_rules t) (ports_rules t i))
    ∙ sym (bad-append (foldl lower nowhere (start_rules t)) (ports_rules t i) (rules_at t i))
    ∙ sym (bad-append nowhere (start_rules t) (ports_rules t i ++ rules_at t i))
    ∙ rw (add-one i)

-- a turn of the loop over the ports: port i, with made at the slots of its seen owner and its candidate
module _ (t : Table) (n i a b : ℕ) (bad : Fault) (e : n ≡ ports_of t.shared.d) (h : i < n) (p : a ≡ slot_of (port_at t i).work.seenowner)
    (q : b ≡ slot_of (port_at t i).work.candidate) (r : bad ≡ bad_below t i) where
  abbrev rules_found : List Rule
  rules_found = port_rules t.shared i (port_at t i) (copies_at t i) (port_at t a).made (port_at t b).made

  in-range : size_good t.shared.d ≡ true
  in-range = some-ports t.shared.d n i e h

  found-same : rules_found ≡ rules_at t i
  found-same =
      let f = (size-good-fits t.shared.d in-range).1 in
      port-any t.shared i (port_at t i) (copies_at t i) (port_at t a).made _ (port_at t b).made _
      (λ l. ap (λ (j : ℕ). (port_at t j).made) (slot-own (port_at t i).work.seenowner a p (lt_of_lt_of_le l f)))
      (λ l. ap (λ (j : ℕ). (port_at t j).made) (slot-own (port_at t i).work.candidate b q (lt_of_lt_of_le l f)))

  -- its tests pass
  pub port-passes : port_tests t.shared i (port_at t i) (copies_at t i) (port_at t a).made (port_at t b).made ≡ true → bad ≡ bad_below t (i + 1)
  port-passes g =
      let f = (size-good-fits t.shared.d in-range).1 in
      let w = work-made t.shared.d (port_at t i).point (port_at t i).made (port_at t a).made _ (port_at t b).made _ (port_at t i).work
      (λ l. ap (λ (j : ℕ). (port_at t j).made) (slot-own (port_at t i).work.seenowner a p (lt_of_lt_of_le l f)))
      (λ l. ap (λ (j : ℕ). (port_at t j).made) (slot-own (port_at t i).work.candidate b q (lt_of_lt_of_le l f))) in
      let z : port_good t i ≡ true =
      ap (λ (x : Bool). fields_good t.shared.active i (port_at t i) && x && copies_good t.shared.d (port_at t i).made (copies_at t i)) (sym w)
      ∙ sym (port-whole t.shared i (port_at t i) (copies_at t i) (port_at t a).made (port_at t b).made)
      ∙ g in
      sym (none-bad bad (rules_at t i) (sym (port-listed t i) ∙ z)) ∙ bad-turn t i bad r

  -- one fails
  pub port-fails : (f : Fault) → f ≡ cond (size_good t.shared.d) (foldl lower bad rules_found) bad → f ≡ bad_below t (i + 1)
  port-fails f g = g ∙ rw in-range (ap (λ (rs : List Rule). foldl lower bad rs) found-same ∙ bad-turn t i bad r)

-- after its last port
pub check-ends : (t : Table) (n i : ℕ) (bad : Fault) → n ≡ ports_of t.shared.d → n ≤ i → i ≤ n → bad ≡ bad_below t i → bad ≡ bad_in t
unfolding ports_of ports_rules bad_in rules
check-ends t n i bad e h l r = go (size_good t.shared.d) refl
  where
    go : (b : Bool) → size_good t.shared.d ≡ b → bad ≡ foldl lower nowhere (rules t)
    go true p = r ∙ ap (bad_below t) (le_antisymm l h ∙ all-ports t.shared.d n e p)
    go false p =
        let z : i ≡ 0 = le_antisymm l h ∙ e ∙ rw p in
        r
        ∙ ap (bad_below t) z
        ∙ bad-append nowhere (start_rules t) (ports_rules t 0)
        ∙ whole-first (room_empty t) t.shared (port_at t t.shared.word.owner).made (rw p)
        ∙ sym (bad-whole t (rw p))
