-- One bit as the code makes it, `1 << (k % 64)`, and its complement.
use Rattle.std.specs.Prelude.{◌≡◌, ℕ, ◌+◌, ◌-◌, ◌*◌, ◌%◌, ◌^◌, ◌<◌}
use Rattle.std.proofs.Common.{◌∙◌, one-mul, mod-lt, arith, lit<, shl_exact, pow_pos}
use Rattle.std.proofs.Math.Pow.{pow-lt, pow-sub-lt}

-- a port number round the 64 bits of a mask
pub round-lt : (k : ℕ) → k % 64 < 64
round-lt k = mod-lt k (lit< tt)

pub one_shifted : (k : ℕ) → 1 * 2 ^ (k % 64) % 2 ^ 64 ≡ 2 ^ (k % 64)
one_shifted k = shl_exact 1 (k % 64) 64 (lit< tt) (omega (arith, round-lt k)) ∙ one-mul (2 ^ (k % 64))

-- the complement of one bit, counted from the greatest number of 64 bits
pub complement : (k : ℕ) → 18446744073709551615 - 2 ^ (k % 64) + 1 ≡ 2 ^ 64 - 2 ^ (k % 64)
complement k = omega (arith, pow-lt {i = k % 64} {j = 64} (round-lt k))

pub complement-lt : (k : ℕ) → 18446744073709551615 - 2 ^ (k % 64) + 1 < 2 ^ 64
complement-lt k = rw (complement k) (pow-sub-lt 64 (pow_pos (k % 64)))
