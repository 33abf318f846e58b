-- What all share, and then each place below D; those above it are empty.
use mathlib.Core.Path.{sym, ap, ◌∙◌}
use mathlib.Core.Bool.{and-true}
use native.Mathlib.Nat.{le_antisymm}
use native.Mathlib.Omega.{arith}
use Rattle.model.specs.declared.Table.{Table}
use Rattle.model.specs.Good.{every_below}
use Rattle.model.specs.Parts.Good.{place_good}
use Rattle.image.proofs.Laws.Checking.{shared-sound, turn, seen-d, seen-good}
use Rattle.image.proofs.checking.Held.sound.Goals as goal

pub loop-k-init : goal.loop-k-init
unfolding every_below
loop-k-init c = sym (and-true _)

pub port_sound-ok-requires : goal.port_sound-ok-requires
port_sound-ok-requires c =
    let i = c.self.inside in
    omega (arith, c.loop-k-test.true, seen-d c.args.self.now i.bytes.now i.d c.self.invariant.0 c.self.invariant.1 c.self.view_is)

pub loop-k-preserved : goal.loop-k-preserved
loop-k-preserved c = turn c.shared_good-ok.result (place_good c.args.self.now) c.loop-k.k _ _ c.loop-k.invariant c.port_sound-ok.ensures

pub returns : goal.returns
returns c =
    let t = c.args.self.now in
    let i = c.self.inside in
    let v = c.self.invariant in
    seen-good t i.bytes.now i.d v.0 v.1 c.self.view_is _ _
    (c.shared_good-ok.ensures ∙ shared-sound t i.shared c.made.result (v.2 ∙ ap (λ (t : Table). t.shared) c.self.view_is) c.made.ensures)
    (rw (le_antisymm c.loop-k.auto.k-end c.loop-k-test.false) at c.loop-k.invariant)
