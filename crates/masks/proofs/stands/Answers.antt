-- `masks::stands` meets its contract: no bit stands past the width.
use Rattle.std.proofs.Common.{sym}
use borrow.Author.Tests.{le-ltb}
use Rattle.model.proofs.Laws.Mask.{beyond}
use Rattle.masks.proofs.stands.Goals as goal

pub returns-else-k-lt64 : goal.returns-else-k-lt64
returns-else-k-lt64 c = rw (le-ltb _ _ c.if-k-lt64.false) (sym (beyond c.ranges.m.fits c.if-k-lt64.false))
