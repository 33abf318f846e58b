use mathlib.Core.Path.{◌≡◌}
use Rattle.text.specs.Laws.Decimal.{Putting}
use Rattle.text.proofs.putting.Sheet.decimal.Given as goal

abbrev pub invariant-loop-x : goal.invariant-loop-x
invariant-loop-x l =
    (l.self.out.ghost_name ≡ l.initial.self.out.ghost_name) × (l.self.at ≡ l.initial.self.at)
    × Putting l.initial.self.out.now l.initial.self.at l.n l.self.out.now l.x l.i

abbrev pub decreases-loop-x : goal.decreases-loop-x
decreases-loop-x l = l.x
