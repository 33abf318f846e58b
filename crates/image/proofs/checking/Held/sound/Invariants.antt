use mathlib.Core.Path.{◌≡◌}
use mathlib.Core.Bool.{◌&&◌}
use Rattle.model.specs.Good.{every_below}
use Rattle.model.specs.Parts.Good.{place_good}
use Rattle.image.proofs.checking.Held.sound.Given as goal

abbrev pub invariant-loop-k : goal.invariant-loop-k
invariant-loop-k l = l.ok ≡ (l.initial.ok && every_below l.k (place_good l.self))
