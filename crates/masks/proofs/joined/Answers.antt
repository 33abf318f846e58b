use Rattle.std.proofs.Common.{◌%◌}
use Rattle.model.specs.Mask.{alone}
use Rattle.model.proofs.Laws.Mask.{or-joined}
use Rattle.masks.proofs.joined.Goals as goal

pub returns : goal.returns
unfolding alone
returns c = rw c.alone.ensures (or-joined c.args.m (c.args.k % 64))
