-- Which points there are: `named` of a good table and the list of points say the same.
use Rattle.std.specs.Prelude.{◌≡◌, refl, Bool, true, false, not, List, [], ◌∷◌, map, ℕ, ◌<◌, eqb, get_or, drop}
use Rattle.std.proofs.Common.{sym, ap, ◌∙◌, true≢false, arith, eqb-true}
use Rattle.std.proofs.Math.Decide.{dec_lt}
use Rattle.std.proofs.Math.ListN.{get_or-eq_default}
use Rattle.model.specs.Points.{Point, none, points, point_of, one_of}
use Rattle.model.specs.Good.{implies, every_below, named}
use Rattle.model.proofs.Laws.Tests.{implied, every-below}
use Rattle.model.proofs.Laws.Own.{number_of_point, number}

-- the numbers below 50 that are no points
abbrev gaps : List ℕ
gaps = 7 ∷ 26 ∷ 27 ∷ 28 ∷ 29 ∷ 36 ∷ 37 ∷ 38 ∷ 39 ∷ 46 ∷ 47 ∷ 48 ∷ 49 ∷ []

-- a number is one of them where it is not named
in-gap : (n : ℕ) → n < 50 → implies (not (named n)) (one_of n gaps) ≡ true
unfolding every_below named one_of
in-gap = every-below 50 (λ n. implies (not (named n)) (one_of n gaps)) refl

-- where each number of a list is no point, so is a number of the list
no-point : (n : ℕ) (ms : List ℕ) → map point_of ms ≡ map (λ m. none) ms → one_of n ms ≡ true → point_of n ≡ none
unfolding one_of
no-point n [] p e = absurd (true≢false (sym e))
no-point n (m ∷ ms) p e = go (eqb n m) refl e (λ h. no-point n ms (ap (drop 1) p) h)
  where
    go : (b : Bool) → eqb n m ≡ b → one_of n (m ∷ ms) ≡ true → (one_of n ms ≡ true → point_of n ≡ none) → point_of n ≡ none
    go true q h f = ap point_of (eqb-true n m q) ∙ ap (λ (qs : List Point). get_or qs 0 none) p
    go false q h f = f (rw q at h)

pub unnamed : (n : ℕ) → named n ≡ false → point_of n ≡ none
unnamed n e = elim (dec_lt n 50) [
  | yes l ↦ no-point n gaps refl (implied (not (named n)) (one_of n gaps) (in-gap n l) (rw e))
  | no l ↦ get_or-eq_default points none {n = n} (omega arith)
]

pub named-point : (n : ℕ) → named n ≡ true → point_of n ≡ none → ⊥
unfolding named number_of_point
named-point n e q = true≢false (sym e ∙ rw (number n none e q))
