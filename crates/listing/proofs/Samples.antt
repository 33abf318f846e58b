-- Document 01's sample input with the listing that it gives, and inputs of every kind that it calls malformed, in one table.
use Rattle.std.specs.Prelude.{◌≡◌, ℕ, zero, suc, ◌+◌, Bool, true, false, ◌&&◌, List, [], ◌∷◌, ◌==◌, refl}
use Prim.Native.Char.{code}
use Prim.Native.String.{String, len, char_at}
use Rattle.model.proofs.Laws.Compute.{everything}
use Rattle.listing.specs.Listing.{listing}
use Rattle.listing.proofs.Laws.Compute.{whole}

-- the bytes of a text of plain characters
abbrev bytes_from : ℕ → ℕ → String → List ℕ
bytes_from zero i s = []
bytes_from (suc n) i s = code (char_at s i) ∷ bytes_from n (i + 1) s

abbrev bytes : String → List ℕ
bytes s = bytes_from (len s) 0 s

-- an input, and its listing
abbrev pub samples : List (String × String)
samples = (
  "D 2\nE 0\nS 0\nA 0\nX 0\nL 0\nS 0\nS 0\n",
  "1 E 0 0 1 0 0.0.0 0 0\n2 S 0 0 2 0 0.0.0 1 0\n3 A 0 0 2 0 0.0.0 0 0\n4 X 0 0 1 0 0.0.0 0 0\n5 L 0 6 1 0 0.0.0 0 0\n6 S 0 0 2 0 0.0.0 0 0\n7 S 0 0 12 0 0.0.0 0 0\n",
)
    -- an empty input, one of D alone, D out of range
    ∷ ("", "BAD 0\n")
    ∷ ("D 64\n", "")
    ∷ ("D 0\nE 0\n", "BAD 0\n")
    ∷ ("D 65\nE 0\n", "BAD 0\n")
    -- no newline at the end, an empty line
    ∷ ("D 2", "BAD 0\n")
    ∷ ("D 2\nE 0\nS 0", "1 E 0 0 1 0 0.0.0 0 0\nBAD 2\n")
    ∷ ("D 2\n\nE 0\n", "BAD 1\n")
    -- leading zeros, four digits, two spaces, a carriage return, other letters, a second D
    ∷ ("D 2\nE 00\n", "BAD 1\n")
    ∷ ("D 2\nE 1000\n", "BAD 1\n")
    ∷ ("D 2\nE  0\n", "BAD 1\n")
    ∷ ("D 2\nE 0\r\n", "BAD 1\n")
    ∷ ("D 2\ne 0\n", "BAD 1\n")
    ∷ ("D 2\nE 0\nD 2\nE 1\n", "1 E 0 0 1 0 0.0.0 0 0\nBAD 2\n")
    -- a port that does not exist is no malformed line
    ∷ ("D 2\nE 999\nE 1\n", "1 E 999 2 - 0 0.0.0 0 0\n2 E 1 0 1 0 0.0.0 0 0\n")
    ∷ []

abbrev same : List ℕ → List ℕ → Bool
same [] [] = true
same [] (y ∷ ys) = false
same (x ∷ xs) [] = false
same (x ∷ xs) (y ∷ ys) = x == y && same xs ys

abbrev pub agree : List (String × String) → Bool
agree [] = true
agree (s ∷ ss) = same (listing (bytes s.0)) (bytes s.1) && agree ss

pub all-samples : agree samples ≡ true
unfolding everything whole
all-samples = refl
