use Rattle.lock.specs.Turns.{Running}
use Rattle.lock.proofs.runs.run.Given as goal

abbrev pub invariant-loop-i : goal.invariant-loop-i
invariant-loop-i l = Running l.orders l.n l.initial.table l.initial.answers l.i l.table l.answers
