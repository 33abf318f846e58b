-- `masks::within` meets its contract: a mask is below 2 ^ 64.
use Rattle.std.proofs.Common.{sym, lt_of_lt_of_le, pow_mono}
use borrow.Author.Tests.{le-leb}
use Rattle.model.proofs.Laws.Mask.{lt-within}
use Rattle.masks.proofs.within.Goals as goal

pub returns-then-d-ge64 : goal.returns-then-d-ge64
returns-then-d-ge64 c =
    rw (le-leb _ _ c.if-d-ge64.true) (sym (lt-within _ _ (lt_of_lt_of_le c.ranges.m.fits (pow_mono c.if-d-ge64.true))))
