use mathlib.Core.Path.{◌≡◌}
use mathlib.Core.Bool.{cond}
use Prim.Native.Nat.{ℕ, ◌≤◌}
use native.Mathlib.Omega.{arith}
use mir.Syntax.{w8}
use mir.Val.{Fits}
use Rattle.model.proofs.Laws.Fees.{charge-cost}
use Rattle.lock.specs.Parts.{stepped_on}
use Rattle.lock.specs.Sight.{round}
use Rattle.lock.proofs.orders.Reach.stepped.Goals as goal
use Rattle.lock.proofs.orders.Reach.stepped.Goals.{then-m, else-m}

small : (n : ℕ) → n ≤ 1 → Fits w8 n
small n h = omega arith

-- the copies of a spin, with none of one that is new
copied : (c : goal.After-latest) → c.if-m.copies ≡ cond c.step-m.result.makes 0 c.args.self.now.copies.spin
copied c =
    elim c.if-m.branch [
      | then-m w ↦ rw (w.copies-is, w.if-m.true)
      | else-m w ↦ rw (w.copies-is, w.if-m.false)
    ]

pub overflow_cast-result : goal.overflow_cast-result
overflow_cast-result c = rw c.charge-x.ensures (small _ (charge-cost _ _ _ _ _ _).0)

pub overflow_cast-result-2 : goal.overflow_cast-result-2
overflow_cast-result-2 c = rw c.charge-x.ensures (small _ (charge-cost _ _ _ _ _ _).1)

pub returns : goal.returns
unfolding stepped_on
returns c =
    rw (
      c.settled.ensures,
      c.latest.ensures,
      c.charge-x.ensures,
      round c.requires,
      copied c,
      c.step-m.ensures,
      c.view.ensures,
    )
