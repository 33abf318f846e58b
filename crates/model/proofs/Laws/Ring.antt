-- Laws of the ring: the bounds of the distance, next as the nearest port of a set, and next by the count of trailing zeros.
use Rattle.std.specs.Prelude.{◌≡◌, ◌≢◌, ◌⊎◌, true, false, eqb, ltb}
use Rattle.std.proofs.Common.{sym, ap, ◌∙◌, inl, inr, true≢false, le_refl, eq-zero-or-pos, eq-or-lt_of_le, lt_of_not-le, lt_of_lt_of_le, le_of_suc-le-suc, arith, pow_mono, ltb-true, ltb-false, lt-ltb, le-ltb, eqb-true}
use Prim.Native.Nat.{ℕ, zero, suc, ◌+◌, ◌-◌, ◌/◌, ◌^◌, ◌≤◌, ◌<◌, zero-le}
use Rattle.std.proofs.lemmas.Nat.{shr_le}
use Rattle.std.specs.Int.Count.{count_trailing_zeros}
use Rattle.std.proofs.lemmas.Bool.{eqb-false}
use Rattle.model.specs.Mask.{stands}
use Rattle.model.specs.Ring.{after, walk, next, distance}
use Rattle.model.proofs.Laws.Tests.{split}
use Rattle.model.proofs.Laws.Mask.{shifted, beyond, empty, some-stands, trailing-stands, trailing-lowest}

-- the distance to a port above o is counted straight up, to any other round the ring
distance-above : (d : ℕ) {o k : ℕ} → o < k → distance d o k ≡ k - o
unfolding distance
distance-above d {o} {k} h = rw (lt-ltb o k h)

distance-round : (d : ℕ) {o k : ℕ} → k ≤ o → distance d o k ≡ d + k - o
unfolding distance
distance-round d {o} {k} h = rw (le-ltb o k h)

pub distance_is : (P : ℕ → Type 0) (d o k : ℕ) → (o < k → P (k - o)) → (k ≤ o → P (d + k - o)) → P (distance d o k)
unfolding distance
distance_is P d o k f g = split P (ltb o k) (k - o) (d + k - o) (λ e. f (ltb-true o k e)) (λ e. g (ltb-false o k e))

-- the distance is 1 to d, d for o itself, and no two ports lie at the same distance
pub distance-pos : {d o k : ℕ} → o < d → k < d → 1 ≤ distance d o k
distance-pos {d} {o} {k} h l = distance_is (λ (n : ℕ). 1 ≤ n) d o k (omega arith) (omega arith)

pub distance-le : {d o k : ℕ} → o < d → k < d → distance d o k ≤ d
distance-le {d} {o} {k} h l = distance_is (λ (n : ℕ). n ≤ d) d o k (omega arith) (omega arith)

pub distance-own : {d o : ℕ} → o < d → distance d o o ≡ d
distance-own {d} {o} h = omega (arith, distance-round d (le_refl o))

pub distance-injective : {d o j k : ℕ} → o < d → j < d → k < d → distance d o j ≡ distance d o k → j ≡ k
distance-injective {d} {o} {j} {k} h p q =
    distance_is (λ (x : ℕ). x ≡ distance d o k → j ≡ k) d o j
    (λ u. distance_is (λ (y : ℕ). j - o ≡ y → j ≡ k) d o k (omega arith) (omega arith))
    (λ u. distance_is (λ (y : ℕ). d + j - o ≡ y → j ≡ k) d o k (omega arith) (omega arith))

-- the port after another lies one place farther round the ring; the port after o lies at distance 1
after_is : (P : ℕ → Type 0) (d j : ℕ) → (suc j ≡ d → P 0) → (suc j ≢ d → P (suc j)) → P (after d j)
unfolding after
after_is P d j f g = split P (eqb (suc j) d) 0 (suc j) (λ e. f (eqb-true (suc j) d e)) (λ e. g (eqb-false (suc j) d e))

after-below : {d j : ℕ} → j < d → after d j < d
after-below {d} {j} h = after_is (λ (n : ℕ). n < d) d j (omega arith) (omega arith)

after-own : {d o : ℕ} → o < d → distance d o (after d o) ≡ 1
after-own {d} {o} h =
    after_is (λ (n : ℕ). distance d o n ≡ 1) d o
    (λ e. omega (arith, distance-round d {o = o} {k = 0} zero-le))
    (λ e. omega (arith, distance-above d (le_refl (suc o))))

after-farther : {d o j : ℕ} → o < d → j < d → distance d o j < d → distance d o (after d j) ≡ suc (distance d o j)
after-farther {d} {o} {j} h l =
    distance_is (λ (x : ℕ). x < d → distance d o (after d j) ≡ suc x) d o j
    (λ u.
    after_is (λ (n : ℕ). j - o < d → distance d o n ≡ suc (j - o)) d j
    (λ e. omega (arith, distance-round d {o = o} {k = 0} zero-le))
    (λ e. omega (arith, distance-above d {o = o} {k = suc j} (omega arith))))
    (λ u.
    after_is (λ (n : ℕ). d + j - o < d → distance d o n ≡ suc (d + j - o)) d j
    (omega arith)
    (λ e q. omega (arith, distance-round d {o = o} {k = suc j} (omega arith))))

-- a walk from a port no farther than j, long enough to come to j, ends at a port of the set that is no farther than j
abbrev Found : ℕ → ℕ → ℕ → ℕ → ℕ → Type 0
Found d o a j n = (stands a n ≡ true) × (distance d o n ≤ distance d o j)

module _ (a : ℕ) {d o j : ℕ} (h : o < d) (p : j < d) (s : stands a j ≡ true) where
  apart : (i : ℕ) → i < d → stands a i ≡ false → distance d o i ≢ distance d o j
  apart i l e q = true≢false (sym s ∙ ap (stands a) (sym (distance-injective h l p q)) ∙ e)

  walk-finds : (n i : ℕ) → i < d → distance d o i ≤ distance d o j → distance d o j < distance d o i + n → Found d o a j (walk n d i a)
  unfolding walk
  walk-finds zero i l u v = absurd (omega arith)
  walk-finds (suc n) i l u v =
      split (Found d o a j) (stands a i) i (walk n d (after d i) a)
      (λ e. (e, u))
      (λ e.
      let f = after-farther h l (omega (arith, apart i l e, distance-le h p)) in
      walk-finds n (after d i) (after-below l) (omega (arith, apart i l e)) (omega arith))

  next-finds : Found d o a j (next d o a)
  unfolding next
  next-finds =
      walk-finds d (after d o) (after-below h)
      (omega (arith, after-own h, distance-pos h p))
      (omega (arith, after-own h, distance-le h p))

-- next is a port below d
walk-below : (n : ℕ) {d i : ℕ} (a : ℕ) → i < d → walk n d i a < d
unfolding walk
walk-below zero a l = l
walk-below (suc n) {d} {i} a l =
    split (λ (w : ℕ). w < d) (stands a i) i (walk n d (after d i) a) (λ e. l) (λ e. walk-below n a (after-below l))

pub next-below : {d o : ℕ} (a : ℕ) → o < d → next d o a < d
unfolding next
next-below {d} a h = walk-below d a (after-below h)

-- next of a set that is not empty is a port of it
pub next-stands : {d o a : ℕ} → o < d → 0 < a → a < 2 ^ d → stands a (next d o a) ≡ true
next-stands {d} {o} {a} h p l = let j = some-stands d a p l in (next-finds a h j.1 j.2).0

-- no port of the set is nearer than next
pub next-nearest : {d o j : ℕ} (a : ℕ) → o < d → j < d → stands a j ≡ true → distance d o (next d o a) ≤ distance d o j
next-nearest a h p s = (next-finds a h p s).1

-- a port of the set with no port of the set nearer is next
first : {d o j : ℕ} (a : ℕ) → o < d → j < d → stands a j ≡ true
    → ((i : ℕ) → distance d o i < distance d o j → stands a i ≡ false) → j ≡ next d o a
first {d} {o} {j} a h p s none = go (eq-or-lt_of_le (next-nearest a h p s))
  where
    go : (distance d o (next d o a) ≡ distance d o j) ⊎ (distance d o (next d o a) < distance d o j) → j ≡ next d o a
    go (inl e) = distance-injective h p (next-below a h) (sym e)
    go (inr l) = absurd (true≢false (sym (next-finds a h p s).0 ∙ none (next d o a) l))

-- the ports above o are those of the set shifted down past o
above : (a o i : ℕ) → o < i → stands a i ≡ stands (a / 2 ^ o / 2) (i - suc o)
above a o i u =
    let e : i ≡ o + (1 + (i - suc o)) = omega arith in
    ap (stands a) e ∙ sym (shifted a o (1 + (i - suc o))) ∙ sym (shifted (a / 2 ^ o) 1 (i - suc o))

-- a port of a set within d is below d
inside : {m d j : ℕ} → m < 2 ^ d → stands m j ≡ true → j < d
inside l s = lt_of_not-le (λ q. true≢false (sym s ∙ beyond l q))

module _ {d o a : ℕ} (h : o < d) (w : d ≤ 64) (p : 0 < a) (l : a < 2 ^ d) where
  fits : a < 2 ^ 64
  fits = lt_of_lt_of_le l (pow_mono w)

  -- where no port above o is in the set, next is the lowest port of the set
  pub next-lowest : a / 2 ^ o / 2 ≡ 0 → count_trailing_zeros 64 a ≡ next d o a
  next-lowest z =
      first a h (inside l s) s
      (λ i.
      distance_is (λ (x : ℕ). x < distance d o t → stands a i ≡ false) d o i
      (λ u q. none i u)
      (λ u q. trailing-lowest 64 a i (omega (arith, distance-round d {k = t} low))))
    where
      t : ℕ
      t = count_trailing_zeros 64 a

      s : stands a t ≡ true
      s = trailing-stands 64 a p fits

      none : (i : ℕ) → o < i → stands a i ≡ false
      none i u = above a o i u ∙ rw z (empty (i - suc o))

      low : t ≤ o
      low = le_of_suc-le-suc (lt_of_not-le (λ u. true≢false (sym s ∙ none t u)))

  -- else it is the lowest port above o
  pub next-above : 0 < a / 2 ^ o / 2 → o + 1 + count_trailing_zeros 64 (a / 2 ^ o / 2) ≡ next d o a
  next-above z =
      first a h b s
      (λ i.
      distance_is (λ (x : ℕ). x < distance d o (o + 1 + t) → stands a i ≡ false) d o i
      (λ u q. above a o i u ∙ trailing-lowest 64 m (i - suc o) (omega (arith, far)))
      (λ u q. absurd (omega (arith, far, b))))
    where
      m : ℕ
      m = a / 2 ^ o / 2

      t : ℕ
      t = count_trailing_zeros 64 m

      far : distance d o (o + 1 + t) ≡ 1 + t
      far = omega (arith, distance-above d {o = o} {k = o + 1 + t} (omega arith))

      s : stands a (o + 1 + t) ≡ true
      s =
          let e : o + 1 + t - suc o ≡ t = omega arith in
          above a o (o + 1 + t) (omega arith) ∙ rw e (trailing-stands 64 m z (omega (arith, shr_le a o, fits)))

      b : o + 1 + t < d
      b = inside l s

-- no port at d or above is in the set, so the ring of d and the ring of 64 have the same next
module _ {d o a : ℕ} (h : o < d) (w : d ≤ 64) (p : 0 < a) (l : a < 2 ^ d) where
  same : (a / 2 ^ o / 2 ≡ 0) ⊎ (0 < a / 2 ^ o / 2) → next 64 o a ≡ next d o a
  same (inl z) = sym (next-lowest (lt_of_lt_of_le h w) (le_refl 64) p (fits h w p l) z) ∙ next-lowest h w p l z
  same (inr q) = sym (next-above (lt_of_lt_of_le h w) (le_refl 64) p (fits h w p l) q) ∙ next-above h w p l q

  pub next-any : next 64 o a ≡ next d o a
  next-any = same (eq-zero-or-pos (a / 2 ^ o / 2))
