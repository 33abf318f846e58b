-- The widths of a record's fields, as this crate's forms have them.
use Rattle.std.specs.Prelude.{◌≡◌, refl, Bool, true, ◌&&◌, List, [], ◌∷◌, ℕ, zero, suc, ◌*◌, ◌≤◌, leb, get_or, replicate}
use Rattle.std.proofs.Common.{arith, suc-mul, le-leb, leb-true, zero-mul}
use Rattle.std.proofs.Math.Bool.{and-eq-true_iff}
use Rattle.model.specs.Bytes.{sum}

-- no field is wider than the code's numbers
abbrev pub narrow : List ℕ → Bool
narrow [] = true
narrow (w ∷ ws) = leb w 8 && narrow ws

pub narrow_at : (ws : List ℕ) (i : ℕ) → narrow ws ≡ true → get_or ws i 0 ≤ 8
narrow_at [] i e = omega arith
narrow_at (w ∷ ws) zero e = leb-true w 8 ((and-eq-true_iff (leb w 8) (narrow ws)).0 e).0
narrow_at (w ∷ ws) (suc i) e = narrow_at ws i ((and-eq-true_iff (leb w 8) (narrow ws)).0 e).1

-- n fields of one width
pub narrow-replicate : (n w : ℕ) → w ≤ 8 → narrow (replicate n w) ≡ true
narrow-replicate zero w h = refl
narrow-replicate (suc n) w h = rw (le-leb w 8 h) (narrow-replicate n w h)

pub sum-replicate : (n w : ℕ) → n * w ≡ sum (replicate n w)
unfolding sum
sum-replicate zero w = zero-mul w
sum-replicate (suc n) w = rw (suc-mul n w, sum-replicate n w) (omega arith)
