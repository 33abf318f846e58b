-- The loop's invariant: with the digits still to put, the buffer is as it is to be. A turn puts the last of them, and the first is put after the loop.
use mathlib.Core.Path.{refl, ◌∙◌}
use native.Mathlib.Omega.{arith}
use Rattle.text.specs.Laws.Decimal.{digits-fit, count_next, begins, turns, ends}
use Rattle.text.proofs.putting.Sheet.decimal.Goals as goal

pub overflow_add-end : goal.overflow_add-end
overflow_add-end c = omega (arith, digits-fit _ c.ranges.n.fits, c.digits.ensures, c.requires)

pub loop-x-init : goal.loop-x-init
loop-x-init c = (refl, refl, begins c.ranges.n.fits c.digits.ensures)

pub overflow_sub-i : goal.overflow_sub-i
overflow_sub-i c = omega (arith, count_next _ c.loop-x-test.true, c.loop-x.invariant.2.place)

pub loop-x-preserved : goal.loop-x-preserved
loop-x-preserved c = (
  c.set.ensures.same ∙ c.loop-x.invariant.0,
  c.set.ensures.place ∙ c.loop-x.invariant.1,
  turns c.loop-x-test.true c.last_digit.ensures c.loop-x.invariant.2 c.set.ensures.bytes,
)

pub returns : goal.returns
returns c =
    record {
      same = c.set-2.ensures.same ∙ c.loop-x.invariant.0;
      put = ends c.loop-x-test.false c.last_digit-2.ensures c.ranges.n.fits c.digits.ensures c.loop-x.invariant.2 (rw c.loop-x.invariant.1 at c.set-2.ensures.bytes);
    }
