use mathlib.Core.Path.{◌≡◌}
use Rattle.rules.specs.Check.{bad_below}
use Rattle.image.proofs.checking.Held.bad_in.Given as goal

abbrev pub invariant-loop-k : goal.invariant-loop-k
invariant-loop-k l = l.bad ≡ bad_below l.self l.k
