-- The tables by point as the code holds them: places as the bits of one number, touches as a list of numbers. Each agrees with its definition.
use Rattle.std.specs.Prelude.{◌≡◌, refl, Bool, true, false, cond, ◌&&◌, List, [], ◌∷◌, ℕ, zero, suc, ◌-◌, ◌≤◌, ltb, get_or, drop}
use Rattle.std.proofs.Common.{sym, ap, ◌∙◌, true≢false, ne_of_lt, lt_of_lt_of_le, add-sub_of_le, arith, get_or-drop, ltb-true, ltb-false, ne_eqb}
use Rattle.std.specs.Bool.{beq}
use Rattle.std.proofs.Math.Bool.{and-false}
use Rattle.std.proofs.Math.ListN.{get_or-append, get_or-map, get_or-eq_default}
use Rattle.std.proofs.lemmas.Bool.{lt-leb}
use Rattle.model.specs.declared.Touch.{Touch}
use Rattle.model.specs.declared.Cell.TheVariants.{Status, Go, Spin, Active, Lock, CandidateGo, SeenSpin}
use Rattle.model.specs.declared.Kind.TheVariants.{Read, Write, Add, Swap}
use Rattle.model.proofs.Laws.Tests.{every-below}
use Rattle.model.specs.Mask.{stands}
use Rattle.model.specs.Points.{none, point_of, one_of, own_place, seen_place, candidate_place, candidate_spin_place, points}
use Rattle.model.specs.Good.{every_below, named}
use Rattle.model.specs.Parts.Charges.{touch, untouched, touch_at}

both : {A : Type 0} (a b : Bool) → (a && b) ≡ true → (a ≡ true → b ≡ true → A) → A
both true b p q = q refl p
both false b p q = absurd (true≢false (sym p))

-- two tests that agree at every number below 46, of which the second fails from 46 on: the first, up to 46, is the second
agree : (a b : Bool) → beq a b ≡ true → a ≡ b
agree true true e = refl
agree true false e = sym e
agree false true e = e
agree false false e = refl

table : (m : ℕ) (f : ℕ → Bool) → every_below 46 (λ n. beq (stands m n) (f n)) ≡ true → ((n : ℕ) → 46 ≤ n → f n ≡ false)
    → (n : ℕ) → (ltb n 46 && stands m n) ≡ f n
table m f t high n = go (ltb n 46) refl
  where
    go : (b : Bool) → ltb n 46 ≡ b → (b && stands m n) ≡ f n
    go true e = agree _ _ (every-below 46 (λ i. beq (stands m i) (f i)) t n (ltb-true n 46 e))
    go false e = sym (high n (ltb-false n 46 e))

all46 : List ℕ → Bool
all46 [] = true
all46 (n ∷ ns) = ltb n 46 && all46 ns

-- a number from 46 on is none of a list of smaller ones
beyond : (ns : List ℕ) (n : ℕ) → 46 ≤ n → all46 ns ≡ true → one_of n ns ≡ false
unfolding one_of all46
beyond [] n h t = refl
beyond (m ∷ ms) n h t =
    both (ltb m 46) (all46 ms) t
    (λ l e. simp (ne_eqb n m (λ q. ne_of_lt (lt_of_lt_of_le (ltb-true m 46 l) h) (sym q)), beyond ms n h e))

-- the bits of the code's tables of places
pub named_table : (n : ℕ) → (ltb n 46 && stands 69336945393535 n) ≡ named n
unfolding named every_below stands
named_table =
    table 69336945393535 named refl
    (λ n h.
    simp (lt-leb n 6 (omega arith), lt-leb n 19 (omega arith), lt-leb n 25 (omega arith), lt-leb n 35 (omega arith), lt-leb n 45 (omega arith), and-false))

pub own-table : (n : ℕ) → (ltb n 46 && stands 67711928160 n) ≡ own_place n
unfolding own_place every_below stands
own-table =
    table 67711928160 own_place refl
    (λ n h. simp (ne_eqb n 5 (omega arith), ne_eqb n 6 (omega arith), ne_eqb n 8 (omega arith), ne_eqb n 9 (omega arith), ne_eqb n 10 (omega arith), ne_eqb n 17 (omega arith), lt-leb n 25 (omega arith), lt-leb n 35 (omega arith), and-false))

pub seen-table : (n : ℕ) → (ltb n 46 && stands 50626975236096 n) ≡ seen_place n
unfolding seen_place every_below stands all46
seen-table = table 50626975236096 seen_place refl (λ n h. beyond (21 ∷ 22 ∷ 23 ∷ 25 ∷ 31 ∷ 32 ∷ 33 ∷ 35 ∷ 41 ∷ 42 ∷ 43 ∷ 45 ∷ []) n h refl)

pub candidate-table : (n : ℕ) → (ltb n 46 && stands 13207037018112 n) ≡ candidate_place n
unfolding candidate_place every_below stands all46
candidate-table = table 13207037018112 candidate_place refl (λ n h. beyond (22 ∷ 23 ∷ 32 ∷ 33 ∷ 42 ∷ 43 ∷ []) n h refl)

pub candidate-spin-table : (n : ℕ) → (ltb n 46 && stands 8804691345408 n) ≡ candidate_spin_place n
unfolding candidate_spin_place every_below stands all46
candidate-spin-table = table 8804691345408 candidate_spin_place refl (λ n h. beyond (23 ∷ 33 ∷ 43 ∷ []) n h refl)

-- the code's table of touches
abbrev pub touches : List Touch
touches =
    untouched ∷ touch Read Status ∷ untouched ∷ touch Read Go ∷ touch Write Go ∷ touch Read Active ∷ touch Add Active ∷ untouched ∷ touch Read Spin ∷ untouched ∷ touch Write Status ∷ untouched ∷ touch Write Status ∷ touch Write Status ∷ touch Read Active ∷ touch Add Active ∷ touch Read Go ∷ touch Swap Lock ∷ touch Write Go ∷ touch Write Status
    ∷ touch Read Lock ∷ touch Read Active ∷ touch Read CandidateGo ∷ touch Swap Lock ∷ touch Read Lock ∷ touch Write SeenSpin ∷ untouched ∷ untouched ∷ untouched ∷ untouched
    ∷ touch Read Lock ∷ touch Read Active ∷ touch Read CandidateGo ∷ touch Swap Lock ∷ touch Read Lock ∷ touch Write SeenSpin ∷ untouched ∷ untouched ∷ untouched ∷ untouched
    ∷ touch Read Lock ∷ touch Read Active ∷ touch Read CandidateGo ∷ touch Swap Lock ∷ touch Read Lock ∷ touch Write SeenSpin ∷ []

-- from 46 on there is no point
pub nones : (n : ℕ) → get_or (none ∷ none ∷ none ∷ none ∷ []) n none ≡ none
nones zero = refl
nones (suc zero) = refl
nones (suc (suc zero)) = refl
nones (suc (suc (suc zero))) = refl
nones (suc (suc (suc (suc n)))) = refl

-- the points from a number on
pub from : (m n : ℕ) → m ≤ n → point_of n ≡ get_or (drop m points) (n - m) none
from m n h = ap (λ (i : ℕ). get_or points i none) (sym (add-sub_of_le h)) ∙ sym (get_or-drop m points (n - m) none)

pub pointless : (n : ℕ) → 46 ≤ n → point_of n ≡ none
pointless n h = from 46 n h ∙ nones (n - 46)

pub touch-beyond : (n : ℕ) → 46 ≤ n → touch_at (point_of n) ≡ untouched
unfolding touch_at
touch-beyond n h = ap touch_at (pointless n h)

-- the table of touches says of every number what its point touches
pub touch-table : (n : ℕ) → get_or touches n untouched ≡ touch_at (point_of n)
unfolding touch_at
touch-table n = go (ltb n 46) refl
  where
    nothing : List Touch
    nothing = untouched ∷ untouched ∷ untouched ∷ untouched ∷ []

    go : (b : Bool) → ltb n 46 ≡ b → get_or touches n untouched ≡ touch_at (point_of n)
    go true e = sym (get_or-append touches nothing untouched n (ltb-true n 46 e)) ∙ get_or-map touch_at points n none
    go false e = let h = ltb-false n 46 e in get_or-eq_default touches untouched h ∙ sym (touch-beyond n h)

-- what is kept of a working value, by its two cases
pub kept : {A : Type 0} (place : Bool) (r x z : A) → (place ≡ true → r ≡ x) → (place ≡ false → r ≡ z) → r ≡ cond place x z
kept true r x z f g = f refl
kept false r x z f g = g refl
