-- What the last arm of a `match` on a number knows: the number is none of the arms' keys, the last key first.
use Rattle.std.specs.Prelude.{◌≡◌, Bool, true, ◌||◌, List, [], ◌∷◌, ℕ, zero, suc, ◌-◌, ◌≤◌, ◌<◌, eqb, ltb, get_or, drop}
use Rattle.std.proofs.Math.Path.{refl}
use Rattle.std.proofs.Common.{◌∙◌, true≢false, arith}
use Rattle.std.proofs.Math.Bool.{false}
use Rattle.std.proofs.lemmas.Bool.{false≢true}
use borrow.Author.Tests.{ne_eqb, eqb-true, le-ltb}
use Rattle.std.proofs.Math.ListN.{get_or-append}
use Rattle.model.specs.declared.View.{View}
use Rattle.model.specs.Points.{Tens, two, three, four, none, promotion, points, point_of, one_of}
use Rattle.model.specs.Good.{every_below}
use Rattle.model.specs.Parts.Moves.{changed, step}
use Rattle.model.proofs.Laws.Tests.{every-below}
use Rattle.points.specs.Places.{nones, from}

abbrev pub Outside : ℕ → List ℕ → Type 0
Outside n [] = Unit {0}
Outside n (k ∷ ks) = Outside n ks × (n ≡ k → ⊥)

pub outside : (n : ℕ) (ks : List ℕ) → Outside n ks → one_of n ks ≡ false
unfolding one_of
outside n [] h = refl
outside n (k ∷ ks) h = rw (ne_eqb n k h.1) (outside n ks h.0)

-- a number of a list is the first of it, or one of the rest
first : (P : ℕ → Type 0) (n k : ℕ) (b : Bool) → (eqb n k || b) ≡ true → P k → (b ≡ true → P n) → P n
first P n k b t p q = go (eqb n k) refl t
  where
    go : (a : Bool) → eqb n k ≡ a → (a || b) ≡ true → P n
    go true e t = rw (eqb-true n k e) p
    go false e t = q t

-- the points below 11, and from 11 on below 20, that have no step
abbrev pub entry_keys : List ℕ
entry_keys = 10 ∷ 9 ∷ 8 ∷ 6 ∷ 5 ∷ 4 ∷ 3 ∷ 2 ∷ 1 ∷ []

abbrev pub exit_keys : List ℕ
exit_keys = 19 ∷ 18 ∷ 17 ∷ 16 ∷ 15 ∷ 14 ∷ 13 ∷ 12 ∷ []

module _ (n : ℕ) (v : View) where
  abbrev Stepless : ℕ → Type 0
  Stepless i = step (point_of i) v ≡ changed v v.own

  pub no-entry : n < 11 → one_of n entry_keys ≡ false → Stepless n
  unfolding one_of every_below step
  no-entry h t =
      first Stepless n 0 (one_of n (7 ∷ [])) (rw t at (every-below 11 (λ i. one_of i entry_keys || one_of i (0 ∷ 7 ∷ [])) refl n h)) refl
      (λ e. first Stepless n 7 false e refl (λ f. absurd (false≢true f)))

  pub no-exit : 11 ≤ n → n < 20 → one_of n exit_keys ≡ false → Stepless n
  unfolding one_of every_below step
  no-exit l h t =
      first Stepless n 11 false
      (rw (t, le-ltb n 11 l) at (every-below 20 (λ i. one_of i exit_keys || (ltb i 11 || one_of i (11 ∷ []))) refl n h))
      refl
      (λ f. absurd (false≢true f))

-- the points of a promotion by their place in it; a number that is none of 0 to 5 has no point there
pub promotion-rest : (x : Tens) (i : ℕ) → one_of i (5 ∷ 4 ∷ 3 ∷ 2 ∷ 1 ∷ 0 ∷ []) ≡ false → get_or (promotion x) i none ≡ none
unfolding one_of
promotion-rest x zero t = absurd (true≢false t)
promotion-rest x (suc zero) t = absurd (true≢false t)
promotion-rest x (suc (suc zero)) t = absurd (true≢false t)
promotion-rest x (suc (suc (suc zero))) t = absurd (true≢false t)
promotion-rest x (suc (suc (suc (suc zero)))) t = absurd (true≢false t)
promotion-rest x (suc (suc (suc (suc (suc zero))))) t = absurd (true≢false t)
promotion-rest x (suc (suc (suc (suc (suc (suc i)))))) t = nones i

pub promotion-two : (n : ℕ) → 20 ≤ n → n < 30 → point_of n ≡ get_or (promotion two) (n - 20) none
promotion-two n h l = from 20 n h ∙ get_or-append (promotion two) (drop 30 points) none (n - 20) (omega arith)

pub promotion-three : (n : ℕ) → 30 ≤ n → n < 40 → point_of n ≡ get_or (promotion three) (n - 30) none
promotion-three n h l = from 30 n h ∙ get_or-append (promotion three) (drop 40 points) none (n - 30) (omega arith)

pub promotion-four : (n : ℕ) → 40 ≤ n → point_of n ≡ get_or (promotion four) (n - 40) none
promotion-four n h = from 40 n h
