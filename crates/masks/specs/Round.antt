-- Next as the code finds it, by the count of trailing zeros: the lowest port of the half above o, or else of the whole set; 64 where the set is empty.
use Rattle.std.specs.Prelude.{◌≡◌, ℕ, ◌+◌, ◌/◌, ◌^◌, ◌<◌, cond, ◌⊎◌, ◌==◌}
use Rattle.std.proofs.Common.{◌∙◌, ap, inl, inr, le_refl, ne_of_gt, eq-zero-or-pos, div-le_self, arith, eq-eqb, ne_eqb}
use Rattle.std.specs.Int.Count.{count_trailing_zeros, trailing_of_zero}
use Rattle.model.specs.Ring.{next}
use Rattle.model.proofs.Laws.Ring.{next-lowest, next-above}

module _ (o a : ℕ) (h : o < 64) (l : a < 2 ^ 64) where
  lower : (a ≡ 0) ⊎ (0 < a) → a / 2 ^ o / 2 ≡ 0 → count_trailing_zeros 64 a ≡ cond (a == 0) 64 (next 64 o a)
  lower (inl z) e = rw (eq-eqb a 0 z) (ap (count_trailing_zeros 64) z ∙ trailing_of_zero 64)
  lower (inr p) e = rw (ne_eqb a 0 (λ z. ne_of_gt p z)) (next-lowest h (le_refl 64) p l e)

  pub lowest : a / 2 ^ o / 2 ≡ 0 → count_trailing_zeros 64 a ≡ cond (a == 0) 64 (next 64 o a)
  lowest = lower (eq-zero-or-pos a)

  pub higher : 0 < a / 2 ^ o / 2 → o + 1 + count_trailing_zeros 64 (a / 2 ^ o / 2) ≡ cond (a == 0) 64 (next 64 o a)
  higher q =
      let p : 0 < a = omega (arith, div-le_self a (2 ^ o)) in
      rw (ne_eqb a 0 (λ z. ne_of_gt p z)) (next-above h (le_refl 64) p l q)
