use mathlib.Core.Path.{sym, ◌∙◌}
use mathlib.Core.Bool.{not-not}
use borrow.Author.Tests.{le-leb}
use Rattle.model.specs.Parts.Rules.{own_tests}
use Rattle.points.specs.Places.{own-table}
use Rattle.rules.proofs.good.own_good.Goals as goal

pub returns : goal.returns
unfolding own_tests
returns c =
    rw (
      sym c.fields_good.ensures ∙ c.if-not-fields_good.false,
      sym c.copies_good.ensures ∙ c.if-not-copies_good.false,
      le-leb _ _ c.if-p-own.false,
    )
    (simp (c.has.ensures, own-table c.args.p.point, not-not))
