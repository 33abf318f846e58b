use mathlib.Core.Path.{sym, ◌∙◌}
use mathlib.Core.Bool.{and-true}
use borrow.Author.Tests.{le-leb}
use Rattle.model.specs.Table.{most}
use Rattle.model.specs.Parts.Good.{fields_good}
use Rattle.points.specs.Places.{named_table}
use Rattle.rules.proofs.good.fields_good.Goals as goal

pub returns-then-not-has : goal.returns-then-not-has
unfolding fields_good
returns-then-not-has c = rw (sym (named_table c.args.p.point) ∙ sym c.has.ensures ∙ c.if-not-has.true)

pub returns : goal.returns
unfolding fields_good most
returns c =
    let p = c.args.p in
    rw (
      c.stands-bit.ensures,
      sym (named_table p.point) ∙ sym c.has.ensures ∙ c.if-not-has.false,
      le-leb p.go p.made c.if-p.false,
      and-true,
    )
