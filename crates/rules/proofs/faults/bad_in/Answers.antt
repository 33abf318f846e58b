-- The room above D is joined place by place, and then what is bad is found port by port.
use mathlib.Core.Path.{◌≡◌, sym, ap, ◌∙◌}
use native.Mathlib.Omega.{arith}
use Rattle.model.specs.Table.{room}
use Rattle.model.specs.Good.{bad_in}
use Rattle.rules.specs.Check.{rest-starts, rest-turn, check-starts, port-passes, port-fails, check-ends}
use Rattle.rules.specs.Found.{found}
use Rattle.rules.specs.Finding.{nothing, something}
use Rattle.rules.proofs.faults.bad_in.Goals as goal
use Rattle.rules.proofs.faults.bad_in.Goals.{After-loop-i, then-not-port_good, else-not-port_good}

pub loop-e-init : goal.loop-e-init
loop-e-init c = rest-starts c.args.table.now _ c.ports-n.ensures.value

pub loop-e-preserved : goal.loop-e-preserved
loop-e-preserved c =
    rw c.joined-rest.ensures
    (rest-turn c.args.table.now _ _ c.loop-e.rest c.ports-n.ensures.value (omega arith) c.loop-e.invariant)

pub loop-i-init : goal.loop-i-init
unfolding room
loop-i-init c =
    check-starts c.args.table.now _ c.loop-e.rest _ _ c.loop-e-test.false (omega (arith, c.ports-n.ensures.upper_bound)) c.loop-e.invariant
    c.slot-o.ensures.value
    c.shared_fault-bad.ensures

pub loop-i-preserved : goal.loop-i-preserved
unfolding room
loop-i-preserved c =
    let t = c.args.table.now in
    let n = c.ports-n.ensures.value in
    let a = c.slot-a.ensures.value in
    let b = c.slot-b.ensures.value in
    let h = c.loop-i-test.true in
    let i = c.loop-i.invariant in
    elim c.if-not-port_good.branch [
      | then-not-port_good w ↦ w.bad-is ∙ port-fails t _ _ _ _ _ n h a b i _ w.port_fault_apart-bad.ensures
      | else-not-port_good w ↦ w.bad-is ∙ port-passes t _ _ _ _ _ n h a b i (sym c.port_good.ensures ∙ w.if-not-port_good.false)
    ]

-- what was found below D is what is bad in the table
looked : (c : After-loop-i) → c.loop-i.bad ≡ bad_in c.args.table.now
looked c = check-ends c.args.table.now _ _ _ c.ports-n.ensures.value c.loop-i-test.false (omega arith) c.loop-i.invariant

pub returns-then-bad : goal.returns-then-bad
returns-then-bad c =
    nothing c.loop-i.bad c.if-bad.true ∙ ap found (looked (goal.at.returns-then-bad c).After-loop-i)

pub returns-else-bad : goal.returns-else-bad
returns-else-bad c =
    something c.loop-i.bad c.if-bad.false ∙ ap found (looked (goal.at.returns-else-bad c).After-loop-i)
