-- The image of a fresh table is its head, and zeros.
use mathlib.Core.Path.{◌≡◌, sym, ap, ◌∙◌}
use mathlib.Core.Bool.{Bool, true, false}
use Rattle.model.specs.Good.{good}
use Prim.Native.Nat.{ℕ, ◌-◌, ◌≤◌}
use native.Mathlib.Omega.{arith}
use lib.ListN.{length}
use lib.Seq.{sets}
use Rattle.model.specs.Table.{room, fresh_table, size_good}
use Rattle.rules.specs.Check.{size-good-fits}
use Rattle.model.specs.Bytes.{sum}
use Rattle.model.specs.Layout.{head_widths, size}
use Rattle.layout.specs.Laws.Inside.{start-inside, copied-inside}
use Rattle.image.specs.Image.{written, room_after}
use Rattle.image.proofs.Laws.Writing.{answer-bad, answer-short, answer-done}
use Rattle.image.specs.Parts.{zeros}
use Rattle.image.proofs.Laws.Blank.{head-long, blank-put, fresh-good, fresh-bad, whole-is, part-filled}
use Rattle.image.proofs.writer.blank.Goals as goal

-- what the test of D found
fits : (d : ℕ) {r : Bool} → r ≡ size_good d → r ≡ true → d ≤ room
fits d e h = (size-good-fits d (sym e ∙ h)).1

made-good : (d : ℕ) {r : Bool} → r ≡ size_good d → r ≡ true → good (fresh_table d) ≡ true
made-good d e h = fresh-good d ∙ sym e ∙ h

-- an image is no shorter than its head
head-inside : (d : ℕ) → 14 ≤ size d
unfolding sum head_widths
head-inside d = omega (arith, start-inside d, copied-inside d)

pub returns-then-not-size_good : goal.returns-then-not-size_good
unfolding written room_after
returns-then-not-size_good c =
    let d = c.args.d in
    let q : size_good d ≡ false = sym c.size_good.ensures ∙ c.if-not-size_good.true in
    let e = answer-bad (fresh_table d) (length c.args.room.now) (fresh-good d ∙ q) in record {
      value = rw (e, fresh-bad d q, whole-is _ _ _ c.default.ensures.0 c.default.ensures.1.0 c.default.ensures.1.1);
      room_after = rw e;
    }

pub overflow_cast-m : goal.overflow_cast-m
unfolding room
overflow_cast-m c = omega (arith, fits c.args.d c.size_good.ensures c.if-not-size_good.false)

pub returns-then-room-long : goal.returns-then-room-long
unfolding fresh_table written room_after
returns-then-room-long c =
    let d = c.args.d in
    let g = made-good d c.size_good.ensures c.if-not-size_good.false in
    let e = answer-short (fresh_table d) (length c.args.room.now) g (rw (← c.size-long.ensures) c.if-room-long.true) in record {
      value = rw e;
      room_after = rw e;
    }

pub slice_bounds-fill-count : goal.slice_bounds-fill-count
slice_bounds-fill-count c = omega (arith, c.size-long.ensures, head-inside c.args.d)

pub slice_bounds-fill-start : goal.slice_bounds-fill-start
slice_bounds-fill-start c = omega (arith, c.size-long.ensures, head-inside c.args.d)

pub returns : goal.returns
unfolding fresh_table written room_after sum head_widths
returns c =
    let d = c.args.d in
    let f = fits d c.size_good.ensures c.if-not-size_good.false in
    let g = made-good d c.size_good.ensures c.if-not-size_good.false in
    let n : size d ≤ length c.args.room.now = rw (← c.size-long.ensures) c.if-room-long.false in
    let head = c.put_head.new.image in
    let l = head-long d f c.args.room.now head n c.put_head.ensures in
    let e = answer-done (fresh_table d) (length c.args.room.now) g n in
    let p = part-filled head c.fill.new.self 14 c.size-long.result (omega (arith, c.size-long.ensures, head-inside d)) (omega (arith, l, c.if-room-long.false))
    (c.fill.ensures.after (λ y e. e)) in
    record {
      value = rw (e, c.size-long.ensures);
      room_after = rw e (blank-put d f c.args.room.now head n c.put_head.ensures _ (p ∙ ap (λ (m : ℕ). sets head 14 (zeros (m - 14))) c.size-long.ensures));
    }
