-- Numbers as bytes, little end first, and records of fields of given widths.
use mathlib.Core.List.{List, [], ◌∷◌, ◌++◌, foldr}
use Rattle.std.specs.Prelude.{ℕ, zero, suc, ◌+◌, ◌*◌, ◌/◌, ◌%◌, ◌<◌, get_or, take, drop}

-- bytes are below 256
abbrev pub Bytes : List ℕ → Type 0
Bytes bs = (i : ℕ) → get_or bs i 0 < 256

-- the w bytes of v, and the number that bytes stand for
unfoldable pub little : ℕ → ℕ → List ℕ
little zero v = []
little (suc w) v = v % 256 ∷ little w (v / 256)

unfoldable pub value : List ℕ → ℕ
value [] = 0
value (b ∷ bs) = b + 256 * value bs

-- how many bytes a record of such widths takes
unfoldable pub sum : List ℕ → ℕ
sum ws = foldr ◌+◌ 0 ws

-- the bytes of a record: those of each value, at its width; and the values that stand at the start of bytes
unfoldable pub pack : List ℕ → List ℕ → List ℕ
pack [] vs = []
pack (w ∷ ws) vs = little w (get_or vs 0 0) ++ pack ws (drop 1 vs)

unfoldable pub unpack : List ℕ → List ℕ → List ℕ
unpack [] bs = []
unpack (w ∷ ws) bs = value (take w bs) ∷ unpack ws (drop w bs)

-- n records of the same widths, one straight after the other
unfoldable pub unpacks : List ℕ → ℕ → List ℕ → List (List ℕ)
unpacks ws zero bs = []
unpacks ws (suc n) bs = unpack ws bs ∷ unpacks ws n (drop (sum ws) bs)
