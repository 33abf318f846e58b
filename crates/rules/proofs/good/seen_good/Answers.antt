use mathlib.Core.Bool.{not-not, or-false, or_assoc}
use Rattle.points.specs.Places.{candidate-table, candidate-spin-table}
use Rattle.model.specs.Parts.Rules.{seen_tests}
use Rattle.rules.proofs.good.seen_good.Goals as goal

pub returns : goal.returns
unfolding seen_tests
returns c =
    simp (
      c.has-2.ensures,
      c.has.ensures,
      c.from-2.ensures,
      c.from.ensures,
      candidate-table c.args.point,
      candidate-spin-table c.args.point,
      not-not,
      or-false,
      or_assoc,
    )
