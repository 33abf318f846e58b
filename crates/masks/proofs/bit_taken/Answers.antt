use Rattle.std.proofs.Common.{◌≡◌, ◌-◌, ◌^◌, ◌%◌, arith, pow_pos}
use Rattle.std.proofs.Math.Pow.{pow-lt}
use Rattle.model.specs.Mask.{alone, added}
use Rattle.masks.specs.Shift.{round-lt}
use Rattle.masks.proofs.bit_taken.Goals as goal

-- the number that adds up to 2 ^ 64 with bit k is its complement
complement-is : (c : goal.After-wrapping_neg) → c.wrapping_neg.result ≡ 2 ^ 64 - 2 ^ (c.args.k % 64)
unfolding alone
complement-is c =
    omega (
      arith,
      c.alone.ensures,
      c.wrapping_neg.ensures,
      c.wrapping_neg.type_inv,
      pow_pos (c.args.k % 64),
      pow-lt {i = c.args.k % 64} {j = 64} (round-lt c.args.k),
    )

pub returns : goal.returns
unfolding added
returns c = rw (complement-is c)
