-- The digits of a number stand for it; they are digits, and the first is no 0 unless it is the only one; and no other digits do.
use Rattle.std.specs.Prelude.{◌≡◌, refl, Bool, true, false, ℕ, zero, suc, ◌+◌, ◌-◌, ◌*◌, ◌/◌, ◌%◌, ◌≤◌, ◌<◌, ltb, leb, length, get_or}
use Rattle.std.proofs.Common.{sym, ap, ◌∙◌, arith, ltb-true, ltb-false, leb-true, le-leb}
use Rattle.std.proofs.Math.Bool.{and-eq-true_iff}
use mathlib.Core.List.{List, [], ◌∷◌, ◌++◌, foldl, foldl-append, append-nil}
use Rattle.std.proofs.Math.Seq.{append_snoc}
use Rattle.lines.specs.Line.{nought, digit, value_of}
use Rattle.text.specs.Text.{decimal}
use Rattle.text.specs.Laws.Decimal.{digits-one, digits-next}

last : (ds : List ℕ) (d : ℕ) → value_of (ds ++ d ∷ []) ≡ 10 * value_of ds + (d - nought)
last ds d = foldl-append _ 0 ds (d ∷ [])

-- by as many turns as n is large
read-in : (turns n : ℕ) → n < turns → value_of (decimal n) ≡ n
read-in zero n h = absurd (omega arith)
read-in (suc turns) n h = go (ltb n 10) refl (λ k. read-in turns (n / 10) k)
  where
    go : (b : Bool) → ltb n 10 ≡ b → (n / 10 < turns → value_of (decimal (n / 10)) ≡ n / 10) → value_of (decimal n) ≡ n
    go true e q = rw (digits-one n (ltb-true n 10 e)) (omega arith)
    go false e q =
        let l = ltb-false n 10 e in
        rw (digits-next n l, last (decimal (n / 10)) (nought + n % 10), q (omega (arith, l))) (omega arith)

pub read_back : (n : ℕ) → value_of (decimal n) ≡ n
read_back n = read-in (suc n) n (omega arith)

-- every byte of it is a digit
is_digit : (d : ℕ) → d < 10 → digit (nought + d) ≡ true
is_digit d h = rw (le-leb nought (nought + d) (omega arith), le-leb (nought + d) 57 (omega arith))

and-digit : (ds : List ℕ) (d : ℕ) → ((i : ℕ) → i < length ds → digit (get_or ds i 0) ≡ true) → digit d ≡ true
    → (i : ℕ) → i < length (ds ++ d ∷ []) → digit (get_or (ds ++ d ∷ []) i 0) ≡ true
and-digit [] d f e zero h = e
and-digit [] d f e (suc i) h = absurd (omega arith)
and-digit (x ∷ ds) d f e zero h = f 0 (omega arith)
and-digit (x ∷ ds) d f e (suc i) h = and-digit ds d (λ j l. f (suc j) (omega (arith, l))) e i (omega (arith, h))

digits_in_lem : (turns n : ℕ) → n < turns → (i : ℕ) → i < length (decimal n) → digit (get_or (decimal n) i 0) ≡ true
digits_in_lem zero n h = absurd (omega arith)
digits_in_lem (suc turns) n h = go (ltb n 10) refl (λ k. digits_in_lem turns (n / 10) k)
  where
    go : (b : Bool) → ltb n 10 ≡ b → (n / 10 < turns → (i : ℕ) → i < length (decimal (n / 10)) → digit (get_or (decimal (n / 10)) i 0) ≡ true)
        → (i : ℕ) → i < length (decimal n) → digit (get_or (decimal n) i 0) ≡ true
    go true e q = rw (digits-one n (ltb-true n 10 e)) (and-digit [] (nought + n) (λ j l. absurd (omega (arith, l))) (is_digit n (ltb-true n 10 e)))
    go false e q =
        let l = ltb-false n 10 e in
        rw (digits-next n l) (and-digit (decimal (n / 10)) (nought + n % 10) (q (omega (arith, l))) (is_digit (n % 10) (omega arith)))

pub all_digits : (n i : ℕ) → i < length (decimal n) → digit (get_or (decimal n) i 0) ≡ true
all_digits n = digits_in_lem (suc n) n (omega arith)

-- the first digit of a number above 0 is above 0
still-first : (ds es : List ℕ) → nought < get_or ds 0 0 → nought < get_or (ds ++ es) 0 0
still-first [] es h = absurd (omega arith)
still-first (d ∷ ds) es h = h

first-in : (turns n : ℕ) → n < turns → 0 < n → nought < get_or (decimal n) 0 0
first-in zero n h p = absurd (omega arith)
first-in (suc turns) n h p = go (ltb n 10) refl (λ k l. first-in turns (n / 10) k l)
  where
    go : (b : Bool) → ltb n 10 ≡ b → (n / 10 < turns → 0 < n / 10 → nought < get_or (decimal (n / 10)) 0 0) → nought < get_or (decimal n) 0 0
    go true e q = rw (digits-one n (ltb-true n 10 e)) (omega arith)
    go false e q =
        let l = ltb-false n 10 e in
        rw (digits-next n l) (still-first (decimal (n / 10)) _ (q (omega (arith, l)) (omega (arith, l))))

pub first_above : (n : ℕ) → 0 < n → nought < get_or (decimal n) 0 0
first_above n = first-in (suc n) n (omega arith)

-- digits after those of a number above 0 are printed after them
range : (d : ℕ) → digit d ≡ true → (nought ≤ d) × (d ≤ 57)
range d h = let p = (and-eq-true_iff (leb nought d) (leb d 57)).0 h in (leb-true nought d p.0, leb-true d 57 p.1)

digits-after : (v : ℕ) (ds : List ℕ) → 0 < v → ((i : ℕ) → i < length ds → digit (get_or ds i 0) ≡ true)
    → decimal (foldl (λ n d. 10 * n + (d - nought)) v ds) ≡ decimal v ++ ds
digits-after v [] h f = sym (append-nil (decimal v))
digits-after v (d ∷ ds) h f =
    let b = range d (f 0 (omega arith)) in
    let w = 10 * v + (d - nought) in
    let q : w / 10 ≡ v = omega (arith, b) in
    let r : nought + w % 10 ≡ d = omega (arith, b) in
    let n : decimal w ≡ decimal v ++ d ∷ [] = digits-next w (omega arith) ∙ rw (q, r) in
    digits-after w ds (omega arith) (λ i k. f (suc i) (omega (arith, k)))
    ∙ ap (λ (es : List ℕ). es ++ ds) n
    ∙ append_snoc (decimal v) d ds

pub other-form : (ds : List ℕ) → ((i : ℕ) → i < length ds → digit (get_or ds i 0) ≡ true) → nought < get_or ds 0 0 → decimal (value_of ds) ≡ ds
other-form [] f h = absurd (omega arith)
other-form (d ∷ ds) f h =
    let b = range d (f 0 (omega arith)) in
    let w = 10 * 0 + (d - nought) in
    let r : nought + w ≡ d = omega (arith, b) in
    let n : decimal w ≡ d ∷ [] = digits-one w (omega (arith, b)) ∙ rw r in
    digits-after w ds (omega (arith, h)) (λ i k. f (suc i) (omega (arith, k))) ∙ ap (λ (es : List ℕ). es ++ ds) n
