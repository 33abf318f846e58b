-- Before turn k the table has the ports of the image below k, and no others.
use mathlib.Core.Path.{◌≡◌, ◌∙◌}
use mathlib.Core.List.{List}
use Prim.Native.Nat.{ℕ, ◌<◌}
use Rattle.records.specs.Records.{ports_in}
use native.Mathlib.Nat.{le_antisymm}
use native.Mathlib.Omega.{arith}
use Rattle.model.specs.Table.{room}
use Rattle.image.proofs.Laws.Held.{held_fits, shared-held, port-held, copies-held}
use Rattle.image.proofs.Laws.Reading.{read-start, read-turn, read-end}
use Rattle.image.proofs.reader.fill.Goals as goal

-- the table has a place for each port of the image
has-place : (b : List ℕ) (d k : ℕ) → d ≡ ports_in b → 0 < d → k < d → k < 64
unfolding room
has-place b d k e s h = omega (arith, h, held_fits b d e s)

pub loop-k-init : goal.loop-k-init
loop-k-init c =
    let b = c.args.bytes.now in
    let r = c.requires in
    read-start b c.args.d r.ports r.some c.args.table.now _ r.fresh (c.shared_in-table.ensures ∙ shared-held b c.args.d r.ports r.some)

pub bounds-table-i : goal.bounds-table-i
bounds-table-i c = omega (arith, has-place _ _ _ c.requires.ports c.requires.some c.loop-k-test.true)

pub bounds-table-i-in-loop-k : goal.bounds-table-i-in-loop-k
bounds-table-i-in-loop-k c = omega (arith, has-place _ _ _ c.requires.ports c.requires.some c.loop-k-test.true)

pub loop-k-preserved : goal.loop-k-preserved
loop-k-preserved c =
    let b = c.args.bytes.now in
    let d = c.args.d in
    let r = c.requires in
    let k = c.loop-k.k in
    let h = c.loop-k-test.true in
    read-turn b d r.ports r.some k c.loop-k.table _ _ h c.loop-k.invariant
    (c.port_in.ensures ∙ port-held b d r.ports r.some k h)
    (c.copies_in.ensures ∙ copies-held b d r.ports r.some k h)

pub returns : goal.returns
returns c =
    read-end c.args.bytes.now c.args.d c.requires.ports c.requires.some c.loop-k.table
    (rw (le_antisymm c.loop-k.auto.k-end c.loop-k-test.false) at c.loop-k.invariant)
