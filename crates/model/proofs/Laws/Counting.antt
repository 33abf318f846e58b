-- Counting the numbers below n that pass a test.
use Rattle.std.specs.Prelude.{◌≡◌, refl, Bool, true, false, cond, ℕ, zero, suc, ◌+◌, ◌≤◌, ◌<◌}
use Rattle.std.proofs.Common.{sym, ◌∙◌, ap, le_refl, arith}
use Rattle.std.proofs.Math.Decide.{ℕ_discrete}

-- a number counts 1 where it passes, else 0
abbrev weight : Bool → ℕ
weight b = cond b 1 0

unfoldable pub count_below : ℕ → (ℕ → Bool) → ℕ
count_below zero f = 0
count_below (suc n) f = count_below n f + weight (f n)

weight-mono : (a b : Bool) → (a ≡ true → b ≡ true) → weight a ≤ weight b
weight-mono true b h = rw (h refl) (le_refl 1)
weight-mono false b h = omega arith

-- a test that passes only where another does counts no more than the other
pub count-mono : (n : ℕ) (f g : ℕ → Bool) → ((i : ℕ) → f i ≡ true → g i ≡ true) → count_below n f ≤ count_below n g
unfolding count_below
count-mono zero f g h = le_refl 0
count-mono (suc n) f g h = omega (arith, count-mono n f g h, weight-mono (f n) (g n) (h n))

-- and less where at one number only the other passes
pub count-falls : (n r : ℕ) (f g : ℕ → Bool) → r < n → ((i : ℕ) → f i ≡ true → g i ≡ true) → f r ≡ false → g r ≡ true
    → count_below n f < count_below n g
unfolding count_below
count-falls zero r f g l h a b = omega arith
count-falls (suc n) r f g l h a b = elim (ℕ_discrete r n) [
  | yes q ↦
      let fails : f n ≡ false = ap f (sym q) ∙ a in
      let passes : g n ≡ true = ap g (sym q) ∙ b in
      rw (fails, passes) (omega (arith, count-mono n f g h))
  | no q ↦ omega (arith, count-falls n r f g (omega arith) h a b, weight-mono (f n) (g n) (h n))
]

-- no test counts more than n, and one that fails at a number below n counts less
count-le : (n : ℕ) (f : ℕ → Bool) → count_below n f ≤ n
unfolding count_below
count-le zero f = le_refl 0
count-le (suc n) f = omega (arith, count-le n f, weight-mono (f n) true (λ e. refl))

pub count-lt : (n r : ℕ) (f : ℕ → Bool) → r < n → f r ≡ false → count_below n f < n
count-lt n r f l a = omega (arith, count-falls n r f (λ i. true) l (λ i e. refl) a refl, count-le n (λ i. true))
