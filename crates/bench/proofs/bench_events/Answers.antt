use mathlib.Core.Path.{◌≡◌, refl, sym, ap, ◌∙◌}
use mathlib.Core.Bool.{true}
use Rattle.model.specs.declared.Outcome.{Outcome}
use Rattle.model.specs.declared.Answer.TheVariants.{Done}
use Rattle.model.specs.Good.{good}
use Rattle.model.proofs.Laws.Fees.{event-cost}
use Rattle.model.proofs.Laws.Kept.{made-good, made-sized}
use Rattle.lock.specs.Single.{plain_of, event-code}
use Rattle.lock.specs.Turns.{begins, turned, run_ends}
use Rattle.bench.proofs.bench_events.Goals as goal

pub loop-i-init : goal.loop-i-init
loop-i-init c =
    let e = c.fresh-made.ensures in
    begins _ _ _ _ (rw e (made-sized _)) (λ l. rw e (made-good _))

pub code-requires : goal.code-requires
code-requires c = rw c.event-o.ensures (event-cost _ _ _)

pub loop-i-preserved : goal.loop-i-preserved
loop-i-preserved c =
    let l = c.loop-i in
    let e = c.event-o.ensures in
    let h = c.loop-i-test.true in
    turned _ _ _ _ l.i l.table _ l.answers _ h l.invariant (ap (λ (o : Outcome). o.table) e)
    (c.code.ensures ∙ ap plain_of e ∙ sym (event-code l.table _ _ (l.invariant.sound h)))

pub returns-clause-answers_after : goal.returns-clause-answers_after
returns-clause-answers_after c =
    let f = c.fresh-made.ensures in
    let g : good c.fresh-made.result.table ≡ true = rw f (made-good _) in
    rw (← f) (run_ends _ _ _ _ _ true _ (sym g) refl c.min-n.ensures _ _ _ Done refl c.loop-i-test.false c.loop-i.invariant).1
