-- The first line of an input, and the lines after it.
use Rattle.std.specs.Prelude.{◌≡◌, refl, Bool, true, false, cond, List, [], ◌∷◌, ◌++◌, ℕ, eqb, get_or, drop}
use Rattle.lines.specs.Line.{newline, lines}

-- no byte of the list is a newline
abbrev pub Clear : List ℕ → Type 0
Clear [] = Unit {0}
Clear (x ∷ xs) = (eqb x newline ≡ false) × Clear xs

-- what follows a byte in its line; the lines after that line
abbrev pub rest_of_line : ℕ → List ℕ → List ℕ
rest_of_line b bs = cond (eqb b newline) [] (get_or (lines bs) 0 [])

abbrev pub lines_after : ℕ → List ℕ → List (List ℕ)
lines_after b bs = cond (eqb b newline) (lines bs) (drop 1 (lines bs))

starts : (b : ℕ) (bs : List ℕ) → lines (b ∷ bs) ≡ (b ∷ rest_of_line b bs) ∷ lines_after b bs
unfolding lines
starts b bs = go (eqb b newline) (lines bs)
  where
    go : (e : Bool) (ls : List (List ℕ))
        → cond e ((b ∷ []) ∷ ls) ((b ∷ get_or ls 0 []) ∷ drop 1 ls) ≡ (b ∷ cond e [] (get_or ls 0 [])) ∷ cond e ls (drop 1 ls)
    go true ls = refl
    go false ls = refl

pub first-line : (xs : List ℕ) (b : ℕ) (bs : List ℕ) → Clear xs → lines (xs ++ b ∷ bs) ≡ (xs ++ b ∷ rest_of_line b bs) ∷ lines_after b bs
unfolding lines
first-line [] b bs c = starts b bs
first-line (x ∷ xs) b bs c = rw (c.0, first-line xs b bs c.1)
