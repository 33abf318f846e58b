-- On a good table each turn is one order; on a bad one there is none, and it is refused.
use mathlib.Core.Path.{refl, sym, ◌∙◌}
use mathlib.Core.Bool.{true}
use Rattle.std.proofs.Common.{rules}
use native.Mathlib.Omega.{arith}
use Rattle.model.specs.Table.{room}
use Rattle.rules.specs.Finding.{found-good, none-good}
use Rattle.lock.specs.Turns.{begins, turn-at, run_ends, run-refused}
use Rattle.lock.proofs.runs.run.Goals.{then-sound+else-loop-i-test, else-sound}
use Rattle.lock.proofs.runs.run.Goals as goal

-- the table's lists are as long as their types say
pub loop-i-init : goal.loop-i-init
unfolding room
loop-i-init c =
    begins _ _ _ _ (record { ports = c.well_formed.0.1.1.0.1.0.1; copies = c.well_formed.0.1.1.1.0.1.0.1 }) (λ m. grind (arith, found-good))

-- what a turn leaves, and where its answer is put, whatever they are called
pub loop-i-preserved : goal.loop-i-preserved
loop-i-preserved c =
    turn-at _ _ _ _ c.loop-i.i _ c.loop-i.table _ c.loop-i.answers _ c.loop-i-test.true c.loop-i.invariant (grind arith) (search rules) (search rules)

pub returns-in-Some : goal.returns-in-Some
returns-in-Some c =
    elim c.if-sound.branch [
      | then-sound+else-loop-i-test w ↦ absurd (grind arith)
      | else-sound w ↦
          let r = run-refused c.args.table _ _ c.args.answers.now (sym c.in-Some.is ∙ c.bad_in-bad.ensures) in
          record { value = rw w.table-is r.0; answers_after = rw w.answers-is r.1 }
    ]

pub returns-in-None : goal.returns-in-None
returns-in-None c =
    let g = none-good c.args.table (sym c.in-None.is ∙ c.bad_in-bad.ensures) in
    elim c.if-sound.branch [
      | then-sound+else-loop-i-test w ↦
          let r = run_ends _ _ _ _ _ true _ (sym g) refl w.min-n.ensures w.loop-i.i w.loop-i.table w.loop-i.answers _ refl w.loop-i-test.false w.loop-i.invariant in
          record { value = rw w.table-is r.0; answers_after = rw w.answers-is r.1 }
      | else-sound w ↦ absurd (grind arith)
    ]
