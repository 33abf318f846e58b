use mathlib.Core.Path.{sym, ◌∙◌}
use Rattle.points.specs.Places.{seen-table}
use Rattle.model.specs.Parts.Rules.{port_tests}
use Rattle.rules.proofs.good.port_good.Goals as goal

pub returns-then-not-has : goal.returns-then-not-has
unfolding port_tests
returns-then-not-has c =
    rw (
      sym c.own_good.ensures ∙ c.if-not-own_good.false,
      sym (seen-table c.args.p.point) ∙ sym c.has.ensures ∙ c.if-not-has.true,
    )
    c.unseen_good.ensures

pub returns : goal.returns
unfolding port_tests
returns c =
    rw (
      sym c.own_good.ensures ∙ c.if-not-own_good.false,
      sym (seen-table c.args.p.point) ∙ sym c.has.ensures ∙ c.if-not-has.false,
    )
    c.seen_good.ensures
