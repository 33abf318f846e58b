-- Laws of the sets of ports as masks: what a set within d ports is, what the fetch-and-add does to ACTIVE, and what becomes of a copy set.
-- They go digit by digit: the lowest digit is port 0, and the half of a set holds the other ports, each one lower.
use Rattle.std.specs.Prelude.{◌≡◌, refl, ◌≢◌, Bool, true, false, cond, ℕ, zero, suc, ◌+◌, ◌-◌, ◌*◌, ◌/◌, ◌%◌, ◌^◌, ◌≤◌, ◌<◌, eqb}
use Rattle.std.proofs.Common.{sym, ap, ◌∙◌, suc-le-suc, zero-add, pow-suc, lt_of_lt_of_le, le_of_suc-le-suc, div-one, div-lt_iff_lt-mul, mod-eq_of_lt, arith, pow_pos, pow_mono, shr-shr, eqb-true, eq-eqb, ne_eqb}
use Rattle.std.proofs.Math.Nat.{pow-succ', zero-div, div-eq_of_lt, div-div-eq-div-mul}
use Rattle.std.proofs.Math.Pow.{pow-lt}
use Rattle.std.specs.Int.Bits.{bit_or, or_step, or_zero_r}
use Rattle.std.specs.Int.Count.{count_trailing_zeros, under}
use Rattle.std.proofs.lemmas.Bool.{eqb-false}
use Rattle.model.proofs.Laws.Tests.{split}
use Rattle.model.specs.Mask.{stands, within, joined, alone, added}

-- a set is within d where it is below 2 ^ d, and the other way
pub within-lt : (d m : ℕ) → within d m ≡ true → m < 2 ^ d
unfolding within
within-lt d m e =
    let h : m < 1 * 2 ^ d = (div-lt_iff_lt-mul (pow_pos d)).0 (omega (arith, eqb-true (m / 2 ^ d) 0 e)) in omega arith

pub lt-within : (d m : ℕ) → m < 2 ^ d → within d m ≡ true
unfolding within
lt-within d m h = eq-eqb _ _ (div-eq_of_lt h)

-- a set shifted down by i places holds the ports from i on, each i lower
pub shifted : (m i k : ℕ) → stands (m / 2 ^ i) k ≡ stands m (i + k)
unfolding stands
shifted m i k = rw shr-shr

-- port 0 is the lowest digit; the half of a set holds the other ports, each one lower
port-zero : (m : ℕ) → stands m 0 ≡ eqb (m % 2) 1
unfolding stands
port-zero m = rw div-one

half : (m k : ℕ) → stands m (suc k) ≡ stands (m / 2) k
unfolding stands
half m k = rw (pow-succ', ← div-div-eq-div-mul)

-- no port at d or above is in a set within d, and none in the empty set
pub beyond : {m d j : ℕ} → m < 2 ^ d → d ≤ j → stands m j ≡ false
unfolding stands
beyond {m} {d} {j} h l = rw (div-eq_of_lt (lt_of_lt_of_le h (pow_mono l)))

pub empty : (j : ℕ) → stands 0 j ≡ false
unfolding stands
empty j = rw zero-div

-- the set is even or odd as port 0 is in it
even : (m : ℕ) → stands m 0 ≡ false → m % 2 ≡ 0
even m e = let h = eqb-false (m % 2) 1 (sym (port-zero m) ∙ e) in omega arith

odd : (m : ℕ) → stands m 0 ≡ true → m % 2 ≡ 1
odd m e = eqb-true _ _ (sym (port-zero m) ∙ e)

-- half of the sum of a set and a port's bit; half of a set within d + 1 is within d
plus-half : (m k : ℕ) → (m + 2 ^ suc k) / 2 ≡ m / 2 + 2 ^ k
plus-half m k = omega (arith, pow-suc 2 k)

half_lt : (m d : ℕ) → m < 2 ^ suc d → m / 2 < 2 ^ d
half_lt m d h = omega (arith, pow-suc 2 d)

-- adding the bit of a port that is not in the set puts that port in, changes no other, and stays within d
plus-own : (m k : ℕ) → stands m k ≡ false → stands (m + 2 ^ k) k ≡ true
plus-own m zero e = port-zero (m + 1) ∙ eq-eqb ((m + 1) % 2) 1 (omega (arith, even m e))
plus-own m (suc k) e = half _ k ∙ rw plus-half (plus-own (m / 2) k (sym (half m k) ∙ e))

plus-other : (m k j : ℕ) → stands m k ≡ false → j ≢ k → stands (m + 2 ^ k) j ≡ stands m j
plus-other m zero zero e n = absurd (n refl)
plus-other m zero (suc j) e n = let h : (m + 1) / 2 ≡ m / 2 = omega (arith, even m e) in simp (half, h)
plus-other m (suc k) zero e n = let h : (m + 2 ^ suc k) % 2 ≡ m % 2 = omega (arith, pow-suc 2 k) in simp (port-zero, h)
plus-other m (suc k) (suc j) e n =
    simp (half, plus-half) (plus-other (m / 2) k j (sym (half m k) ∙ e) (λ q. n (ap suc q)))

plus-lt : (m k d : ℕ) → stands m k ≡ false → k < d → m < 2 ^ d → m + 2 ^ k < 2 ^ d
plus-lt m zero zero e l h = omega arith
plus-lt m zero (suc d) e l h = omega (arith, even m e, pow-suc 2 d)
plus-lt m (suc k) zero e l h = omega arith
plus-lt m (suc k) (suc d) e l h =
    let t = plus-lt (m / 2) k d (sym (half m k) ∙ e) (omega arith) (half_lt m d h) in
    omega (arith, pow-suc 2 k, pow-suc 2 d)

-- the bit of a port in the set can be taken away, which takes that port out and changes no other
minus-le : (m k : ℕ) → stands m k ≡ true → 2 ^ k ≤ m
minus-le m zero e = omega (arith, odd m e)
minus-le m (suc k) e = omega (arith, pow-suc 2 k, minus-le (m / 2) k (sym (half m k) ∙ e))

minus-own : (m k : ℕ) → stands m k ≡ true → stands (m - 2 ^ k) k ≡ false
minus-own m zero e = port-zero (m - 1) ∙ ne_eqb ((m - 1) % 2) 1 (omega (arith, odd m e))
minus-own m (suc k) e =
    let h : (m - 2 ^ suc k) / 2 ≡ m / 2 - 2 ^ k = omega (arith, pow-suc 2 k, minus-le m (suc k) e) in
    half (m - 2 ^ suc k) k ∙ rw h (minus-own (m / 2) k (sym (half m k) ∙ e))

minus-other : (m k j : ℕ) → stands m k ≡ true → j ≢ k → stands (m - 2 ^ k) j ≡ stands m j
minus-other m k j e n =
    let h : m - 2 ^ k + 2 ^ k ≡ m = omega (arith, minus-le m k e) in
    sym (plus-other (m - 2 ^ k) k j (minus-own m k e) n) ∙ rw h

-- the fetch-and-add of a port's bit, and of its complement, adds that bit and takes it away: only the second wraps
added-plus : (m k d : ℕ) → k < d → d ≤ 64 → m < 2 ^ d → stands m k ≡ false → added m (2 ^ k) ≡ m + 2 ^ k
unfolding added
added-plus m k d l w h e = mod-eq_of_lt (lt_of_lt_of_le (plus-lt m k d e l h) (pow_mono w))

added-minus : (m k d : ℕ) → d ≤ 64 → m < 2 ^ d → stands m k ≡ true → added m (2 ^ 64 - 2 ^ k) ≡ m - 2 ^ k
unfolding added
added-minus m k d w h e = omega (arith, minus-le m k e, lt_of_lt_of_le h (pow_mono w))

module _ {m k d : ℕ} (l : k < d) (w : d ≤ 64) (h : m < 2 ^ d) where
  -- the fetch-and-add of the bit of a port that is not in the set puts that port in, and changes no other
  pub set_own : stands m k ≡ false → stands (added m (2 ^ k)) k ≡ true
  set_own e = rw (added-plus m k d l w h e) (plus-own m k e)

  pub set_other : {j : ℕ} → stands m k ≡ false → j ≢ k → stands (added m (2 ^ k)) j ≡ stands m j
  set_other {j} e n = rw (added-plus m k d l w h e) (plus-other m k j e n)

  pub set_below : stands m k ≡ false → added m (2 ^ k) < 2 ^ d
  set_below e = rw (added-plus m k d l w h e) (plus-lt m k d e l h)

  -- the fetch-and-add of the complement of the bit of a port in the set takes that port out, and changes no other
  pub cleared-own : stands m k ≡ true → stands (added m (2 ^ 64 - 2 ^ k)) k ≡ false
  cleared-own e = rw (added-minus m k d w h e) (minus-own m k e)

  pub cleared-other : {j : ℕ} → stands m k ≡ true → j ≢ k → stands (added m (2 ^ 64 - 2 ^ k)) j ≡ stands m j
  cleared-other {j} e n = rw (added-minus m k d w h e) (minus-other m k j e n)

  pub cleared-below : stands m k ≡ true → added m (2 ^ 64 - 2 ^ k) < 2 ^ d
  cleared-below e = rw (added-minus m k d w h e) (omega arith)

-- the set with port k in it: the set itself where the port is in it already, or else the set and the port's bit
joined_is : (P : ℕ → Type 0) (m k : ℕ) → (stands m k ≡ true → P m) → (stands m k ≡ false → P (m + 2 ^ k)) → P (joined m k)
unfolding joined
joined_is P m k = split P (stands m k) m (m + 2 ^ k)

pub joined-own : (m k : ℕ) → stands (joined m k) k ≡ true
joined-own m k = joined_is (λ (n : ℕ). stands n k ≡ true) m k (λ e. e) (plus-own m k)

pub joined-other : (m : ℕ) {k j : ℕ} → j ≢ k → stands (joined m k) j ≡ stands m j
joined-other m {k} {j} n = joined_is (λ (x : ℕ). stands x j ≡ stands m j) m k (λ e. refl) (λ e. plus-other m k j e n)

pub joined-below : {m k d : ℕ} → k < d → m < 2 ^ d → joined m k < 2 ^ d
joined-below {m} {k} {d} l h = joined_is (λ (n : ℕ). n < 2 ^ d) m k (λ e. h) (λ e. plus-lt m k d e l h)

-- the set of port k alone
pub alone-own : (k : ℕ) → stands (alone k) k ≡ true
unfolding alone
alone-own k = rw (← zero-add (2 ^ k)) (plus-own 0 k (empty k))

pub alone-other : {k j : ℕ} → j ≢ k → stands (alone k) j ≡ false
unfolding alone
alone-other {k} {j} n = rw (← zero-add (2 ^ k)) (plus-other 0 k j (empty k) n ∙ empty j)

pub alone-below : {k d : ℕ} → k < d → alone k < 2 ^ d
unfolding alone
alone-below l = pow-lt l

-- the set with port k in it is the or of the set and the port's bit
joined-half : (m k : ℕ) → joined m (suc k) ≡ joined (m / 2) k * 2 + m % 2
unfolding joined
joined-half m k = rw half (go (stands (m / 2) k))
  where
    go : (b : Bool) → cond b m (m + 2 ^ suc k) ≡ cond b (m / 2) (m / 2 + 2 ^ k) * 2 + m % 2
    go true = omega arith
    go false = omega (arith, pow-suc 2 k)

pub or-joined : (m k : ℕ) → bit_or m (2 ^ k) ≡ joined m k
or-joined m zero =
    joined_is (λ (n : ℕ). bit_or m 1 ≡ n) m 0
    (λ e. omega (arith, or_step m 1, or_zero_r (m / 2), odd m e))
    (λ e. omega (arith, or_step m 1, or_zero_r (m / 2), even m e))
or-joined m (suc k) =
    let h : 2 ^ suc k / 2 ≡ 2 ^ k = omega (arith, pow-suc 2 k) in
    omega (arith, pow-suc 2 k, rw h at (or_step m (2 ^ suc k)), or-joined (m / 2) k, joined-half m k)

-- the count of trailing zeros of a set that is not empty is a port of it, below d for a set within d, and no lower port is in the set
trailing : (d m : ℕ) → 0 < m → m < 2 ^ d → (count_trailing_zeros d m < d) × (stands m (count_trailing_zeros d m) ≡ true)
unfolding count_trailing_zeros
trailing zero m p h = absurd (omega arith)
trailing (suc d) m p h = go (m % 2) refl (λ (e : m % 2 ≡ 0). trailing d (m / 2) (omega arith) (half_lt m d h))
  where
    t : ℕ
    t = count_trailing_zeros d (m / 2)

    go : (r : ℕ) → m % 2 ≡ r → (m % 2 ≡ 0 → (t < d) × (stands (m / 2) t ≡ true)) → (under r t < suc d) × (stands m (under r t) ≡ true)
    go zero e ih = (suc-le-suc (ih e).0, half m t ∙ (ih e).1)
    go (suc r) e ih = (omega arith, port-zero m ∙ eq-eqb (m % 2) 1 (omega arith))

pub trailing-stands : (d m : ℕ) → 0 < m → m < 2 ^ d → stands m (count_trailing_zeros d m) ≡ true
trailing-stands d m p h = (trailing d m p h).1

pub trailing-lowest : (d m j : ℕ) → j < count_trailing_zeros d m → stands m j ≡ false
unfolding count_trailing_zeros
trailing-lowest zero m j l = absurd (omega arith)
trailing-lowest (suc d) m j l = go (m % 2) refl j l (trailing-lowest d (m / 2))
  where
    t : ℕ
    t = count_trailing_zeros d (m / 2)

    go : (r : ℕ) → m % 2 ≡ r → (i : ℕ) → i < under r t → ((n : ℕ) → n < t → stands (m / 2) n ≡ false) → stands m i ≡ false
    go zero e zero q ih = port-zero m ∙ ne_eqb (m % 2) 1 (omega arith)
    go zero e (suc i) q ih = half m i ∙ ih i (le_of_suc-le-suc q)
    go (suc r) e i q ih = absurd (omega arith)

-- a set within d that is not empty has a port below d in it
pub some-stands : (d m : ℕ) → 0 < m → m < 2 ^ d → (j : ℕ) × (j < d) × (stands m j ≡ true)
some-stands d m p h = (count_trailing_zeros d m, (trailing d m p h).0, (trailing d m p h).1)
