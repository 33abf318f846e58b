use Rattle.cabi.specs.Laws.Running.{Running}
use Rattle.cabi.proofs.run_in.Given as goal

abbrev pub invariant-loop-i : goal.invariant-loop-i
invariant-loop-i l = Running l.orders l.n l.d l.initial.image l.initial.answers l.i l.image l.answers
