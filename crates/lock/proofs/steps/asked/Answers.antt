-- `lock::steps::asked` meets its contract: each return is its side of the clause x1, by the tests that led there and by what `next` ensures.
use mathlib.Core.Path.{refl, sym, ◌∙◌}
use native.Mathlib.Omega.{arith}
use borrow.Author.Tests.{eq-eqb, ne_eqb, eqb-false}
use Rattle.model.specs.Points.{two, three, four, tens}
use Rattle.model.specs.Step.{unasked}
use Rattle.model.specs.Parts.Moves.{step}
use Rattle.model.proofs.Laws.Ring.{next-below}
use Rattle.lock.specs.Sight.{ringed}
use Rattle.lock.proofs.steps.asked.Goals as goal

pub returns-then-x-eq30 : goal.returns-then-x-eq30
unfolding step unasked tens
returns-then-x-eq30 c two e = absurd (eqb-false 20 30 refl (sym e ∙ c.if-x-eq30.true))
returns-then-x-eq30 c three e = rw (eq-eqb c.args.v.active 0 c.if-v-eq0.true)
returns-then-x-eq30 c four e = absurd (eqb-false 40 30 refl (sym e ∙ c.if-x-eq30.true))

pub returns-then-v-eq0 : goal.returns-then-v-eq0
unfolding step unasked tens
returns-then-v-eq0 c two e = rw (eq-eqb c.args.v.active 0 c.if-v-eq0.true, e)
returns-then-v-eq0 c three e = absurd (c.if-x-eq30.false e)
returns-then-v-eq0 c four e = rw (eq-eqb c.args.v.active 0 c.if-v-eq0.true, e)

pub overflow_cast-work-2 : goal.overflow_cast-work-2
overflow_cast-work-2 c =
    rw (ringed c.requires.0 c.if-v-eq0.false _ c.next.ensures) (omega (arith, next-below c.args.v.active c.requires.0.seen, c.requires.0.ports))

pub returns : goal.returns
unfolding step
returns c y e =
    rw (ne_eqb c.args.v.active 0 c.if-v-eq0.false, ringed c.requires.0 c.if-v-eq0.false _ c.next.ensures, e)
