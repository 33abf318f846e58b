-- Before each turn, what is still to do gives the run, the counts and the text of the whole piece.
use Rattle.std.specs.Prelude.{nat_le, ◌&&◌}
use Rattle.std.proofs.Common.{◌≡◌, ◌-◌, ◌∙◌, false, length, refl, sym, arith}
use Rattle.lines.specs.Reading.{live}
use Rattle.text.specs.Text.{longest}
use Rattle.listing.proofs.Laws.Taking.{no-room, over, begins, turns, ends, breaks_off}
use Rattle.listing.proofs.runs.feed.Goals as goal
use Rattle.listing.proofs.runs.feed.Goals.{then-out-written-lt-LONGEST-via-then-out-written-lt-LONGEST, then-out-written-lt-LONGEST-via-else-out-written-lt-LONGEST+then-not-live}

pub loop-taken-init : goal.loop-taken-init
loop-taken-init c = begins c.args.input.now c.args.out.now c.args.run

pub overflow_sub-out : goal.overflow_sub-out
overflow_sub-out c = omega (arith, c.loop-taken.invariant.inside, c.loop-taken.invariant.long)

pub loop-taken-preserved : goal.loop-taken-preserved
loop-taken-preserved c =
    let l = c.loop-taken in
    let t = c.take-written.ensures in
    turns c.args.input.now c.args.out.now c.args.run c.loop-taken-test.true c.if-out-written-lt-LONGEST.false (sym c.live.ensures ∙ c.if-not-live.false) refl
    (t.run_after, t.value, t.out_after, t.upper_bound)
    l.invariant

-- where it stops there is no room, or the run is at its end
stopped : (c : goal.Joined-then-out-written-lt-LONGEST)
    → (nat_le longest (length c.args.out.now - c.loop-taken.written) && live c.loop-taken.run.stage) ≡ false
stopped c = elim c.then-out-written-lt-LONGEST.branch [
  | then-out-written-lt-LONGEST-via-then-out-written-lt-LONGEST w ↦ no-room _ _ (rw c.loop-taken.invariant.long at w.if-out-written-lt-LONGEST.true)
  | then-out-written-lt-LONGEST-via-else-out-written-lt-LONGEST+then-not-live w ↦ over _ _ (sym w.live.ensures ∙ w.if-not-live.true)
]

pub returns-then-out-written-lt-LONGEST : goal.returns-then-out-written-lt-LONGEST
returns-then-out-written-lt-LONGEST c =
    let l = c.loop-taken in
    let e = breaks_off c.args.input.now c.args.out.now c.args.run l.out l.run l.taken l.written c.loop-taken-test.true (stopped c) l.invariant in
    record { value = e.0; out_after = e.1; taken_in_bounds = (l.invariant.upto, l.invariant.inside) }

pub returns : goal.returns
returns c =
    let l = c.loop-taken in
    let e = ends c.args.input.now c.args.out.now c.args.run l.out l.run l.taken l.written c.loop-taken-test.false l.invariant in
    record { value = e.0; out_after = e.1; taken_in_bounds = (omega arith, l.invariant.inside) }
