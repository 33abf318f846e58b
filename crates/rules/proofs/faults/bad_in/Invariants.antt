use mathlib.Core.Path.{◌≡◌}
use Rattle.rules.specs.Check.{EmptyTo, bad_below}
use Rattle.rules.proofs.faults.bad_in.Given as goal

abbrev pub invariant-loop-e : goal.invariant-loop-e
invariant-loop-e l = EmptyTo l.table l.e l.rest

abbrev pub invariant-loop-i : goal.invariant-loop-i
invariant-loop-i l = l.bad ≡ bad_below l.table l.i
