use Prim.Native.Nat.{◌%◌}
use Rattle.costs.specs.Single.{charge-fee}
use Rattle.costs.proofs.charge.Goals as goal

pub returns : goal.returns
returns c =
    rw (
      c.put_copies.ensures,
      c.put_shared.ensures,
      c.fee-f.ensures,
      c.holders.ensures,
      charge-fee c.args.u (c.args.k % 64) c.args.w c.args.q c.args.s c.args.c,
    )
