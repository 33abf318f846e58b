-- `masks::next` meets its contract: the count of trailing zeros is the lowest port of the half that was chosen.
use Rattle.std.proofs.Common.{◌/◌, ◌%◌, ◌^◌, pos_of_ne-zero, arith}
use lib.Count.{trailing_le}
use Rattle.masks.specs.Shift.{round-lt}
use Rattle.masks.specs.Round.{lowest, higher}
use Rattle.masks.proofs.next.Goals as goal

pub overflow_add-result-else-above-eq0 : goal.overflow_add-result-else-above-eq0
overflow_add-result-else-above-eq0 c = rw c.from-else-above-eq0.ensures (omega (arith, round-lt c.args.o, trailing_le 64 (c.args.a / 2 ^ (c.args.o % 64) / 2)))

pub returns-then-above-eq0 : goal.returns-then-above-eq0
returns-then-above-eq0 c = rw c.from.ensures (lowest (c.args.o % 64) c.args.a (round-lt c.args.o) c.ranges.a.fits c.if-above-eq0.true)

pub returns-else-above-eq0 : goal.returns-else-above-eq0
returns-else-above-eq0 c = rw c.from-else-above-eq0.ensures (higher (c.args.o % 64) c.args.a (round-lt c.args.o) c.ranges.a.fits (pos_of_ne-zero c.if-above-eq0.false))
