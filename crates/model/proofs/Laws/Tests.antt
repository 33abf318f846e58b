-- Laws of tests: one of a chain, one that passes for every number below another, and a choice.
use Rattle.std.specs.Prelude.{◌≡◌, refl, Bool, true, false, cond, ◌&&◌, List, [], ◌∷◌, ℕ, zero, suc, ◌<◌, get_or}
use Rattle.std.proofs.Common.{◌∙◌, ap, not-suc-le-zero, arith}
use Rattle.std.proofs.Math.Bool.{and-eq-true_iff}
use Rattle.std.proofs.lemmas.Bool.{false≢true}
use Rattle.std.proofs.Math.Decide.{ℕ_discrete}
use Rattle.model.specs.Good.{every_below, implies}

-- tests joined by `&&` from the left; where that passes, each of them does
abbrev pub chain : Bool → List Bool → Bool
chain a [] = a
chain a (b ∷ bs) = chain (a && b) bs

first : (a : Bool) (bs : List Bool) → chain a bs ≡ true → a ≡ true
first a [] e = e
first a (b ∷ bs) e = ((and-eq-true_iff a b).0 (first (a && b) bs e)).0

pub conjunct : (a : Bool) (bs : List Bool) → chain a bs ≡ true → (i : ℕ) → get_or (a ∷ bs) i true ≡ true
conjunct a bs e zero = first a bs e
conjunct a [] e (suc i) = refl
conjunct true (b ∷ bs) e (suc i) = conjunct b bs e i
conjunct false (b ∷ bs) e (suc i) = absurd (false≢true (first false bs e))

-- a test that passes wherever another does
pub implied : (a b : Bool) → implies a b ≡ true → a ≡ true → b ≡ true
implied true b e h = e
implied false b e h = absurd (false≢true h)

-- a test that passes for every number below n passes for each
pub every-below : (n : ℕ) (f : ℕ → Bool) → every_below n f ≡ true → (k : ℕ) → k < n → f k ≡ true
unfolding every_below
every-below zero f e k h = absurd (not-suc-le-zero h)
every-below (suc n) f e k h = elim (ℕ_discrete k n) [
  | yes q ↦ ap f q ∙ ((and-eq-true_iff (every_below n f) (f n)).0 e).1
  | no q ↦ every-below n f ((and-eq-true_iff (every_below n f) (f n)).0 e).0 k (omega arith)
]

-- what holds of both choices, each where the test chooses it, holds of the choice
pub split : {A : Type 0} (P : A → Type 0) (b : Bool) (x y : A) → (b ≡ true → P x) → (b ≡ false → P y) → P (cond b x y)
split P true x y f g = f refl
split P false x y f g = g refl

-- two tests that pass, a test that passes where another does, and a test that passes for every number below n
infixl 35 ◌and◌
pub ◌and◌ : {a b : Bool} → a ≡ true → b ≡ true → (a && b) ≡ true
◌and◌ {a} {b} p q = (and-eq-true_iff a b).1 (p, q)

pub implying : (a b : Bool) → (a ≡ true → b ≡ true) → implies a b ≡ true
implying true b f = f refl
implying false b f = refl

pub below-every : (n : ℕ) (f : ℕ → Bool) → ((k : ℕ) → k < n → f k ≡ true) → every_below n f ≡ true
unfolding every_below
below-every zero f h = refl
below-every (suc n) f h = below-every n f (λ k l. h k (omega arith)) and h n (omega arith)
