-- A set of ports as a 64-bit word: bit k belongs to port k.
use Rattle.std.specs.Prelude.{Bool, cond, ℕ, ◌+◌, ◌/◌, ◌%◌, ◌^◌, eqb}

-- bit k stands in m
unfoldable pub stands : ℕ → ℕ → Bool
stands m k = eqb (m / 2 ^ k % 2) 1

-- no bit at d or above stands in m
unfoldable pub within : ℕ → ℕ → Bool
within d m = eqb (m / 2 ^ d) 0

-- the set m with port k in it; the set of port k alone
unfoldable pub joined : ℕ → ℕ → ℕ
joined m k = cond (stands m k) m (m + 2 ^ k)

unfoldable pub alone : ℕ → ℕ
alone k = 2 ^ k

-- the fetch-and-add: additions wrap at 64 bits
unfoldable pub added : ℕ → ℕ → ℕ
added m n = (m + n) % 2 ^ 64
