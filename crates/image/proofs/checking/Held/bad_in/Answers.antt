-- What all share, and then each port.
use mathlib.Core.Path.{sym, ap, ◌∙◌}
use native.Mathlib.Nat.{le_antisymm}
use native.Mathlib.Omega.{arith}
use Rattle.model.specs.declared.Table.{Table}
use Rattle.model.specs.Good.{rules, bad_in}
use Rattle.rules.specs.Check.{bad_below, bad-turn}
use Rattle.image.proofs.Laws.Checking.{seen-d, seen-bad}
use Rattle.image.proofs.checking.Held.bad_in.Goals as goal

pub loop-k-init : goal.loop-k-init
loop-k-init c =
    let t = c.args.self.now in
    let i = c.self.inside in
    let v = c.self.invariant in
    c.shared_fault-bad.ensures
    ∙ seen-bad t i.bytes.now i.d v.0 v.1 c.self.view_is i.shared c.made.result (v.2 ∙ ap (λ (t : Table). t.shared) c.self.view_is) c.made.ensures

pub port_bad-bad-requires : goal.port_bad-bad-requires
port_bad-bad-requires c =
    let i = c.self.inside in
    omega (arith, c.loop-k-test.true, seen-d c.args.self.now i.bytes.now i.d c.self.invariant.0 c.self.invariant.1 c.self.view_is)

pub loop-k-preserved : goal.loop-k-preserved
loop-k-preserved c = c.port_bad-bad.ensures ∙ bad-turn c.args.self.now c.loop-k.k _ c.loop-k.invariant

pub returns : goal.returns
unfolding bad_in rules
returns c =
    let t = c.args.self.now in
    let i = c.self.inside in
    c.loop-k.invariant
    ∙ ap (bad_below t) (le_antisymm c.loop-k.auto.k-end c.loop-k-test.false ∙ sym (seen-d t i.bytes.now i.d c.self.invariant.0 c.self.invariant.1 c.self.view_is))
