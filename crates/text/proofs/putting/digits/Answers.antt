use Rattle.std.proofs.Common.{sym, arith}
use Rattle.text.specs.Laws.Decimal.{count-between, digits-one}
use Rattle.text.proofs.putting.digits.Goals as goal

pub returns-in-Some : goal.returns-in-Some
returns-in-Some c =
    let b = c.checked_ilog10.ensures in
    sym (count-between c.in-Some.k c.args.n (rw c.in-Some.is at b.power_le) (rw c.in-Some.is at b.next_power_gt))

pub returns-in-None : goal.returns-in-None
returns-in-None c = rw (rw c.in-None.is at c.checked_ilog10.ensures.none, digits-one 0 (omega arith))
