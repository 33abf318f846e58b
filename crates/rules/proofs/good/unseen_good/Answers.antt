use mathlib.Core.Bool.{and_assoc}
use Rattle.model.specs.Parts.Rules.{unseen_tests}
use Rattle.rules.specs.Check.{or-none}
use Rattle.rules.proofs.good.unseen_good.Goals as goal

pub returns : goal.returns
unfolding unseen_tests
returns c = simp (or-none, and_assoc)
