-- A step as the code takes it: from what a port sees to what it changes, a clause for each point, in the document's order, with the next point as its number.
use Rattle.std.specs.Prelude.{Bool, true, false, cond, ◌&&◌, ℕ, ◌+◌, ◌-◌, ◌^◌, eqb, leb, ltb}
use Rattle.model.specs.declared.Word.{Word}
use Rattle.model.specs.declared.Port.{Port}
use Rattle.model.specs.declared.View.{View}
use Rattle.model.specs.declared.Move.{Move}
use Rattle.model.specs.Table.{most, TRY, CS, EXIT, ABORT, word, read_spin}
use Rattle.model.specs.Mask.{stands, within, added}
use Rattle.model.specs.Ring.{next}
use Rattle.model.specs.Points.{Point, none, p0, p1, p2, p3, p4, p5, p6, p8, p9, p10, p11, p12, p13, p14, p15, p16, p17, p18, p19, x0, x1, x2, x3, x4, x5, tens, back, point_of}
use Rattle.model.specs.Good.{implies}
use Rattle.model.specs.Step.{at, with_status, with_flag, with_go, with_own, with_seen, with_candidate, with_candidate_spin, swapped, new_spin, unasked}

-- what a step of port k sees: its own record, ACTIVE, the number of ports, k, GO of the port that it touches, the word
abbrev pub view : Port → ℕ → ℕ → ℕ → ℕ → Word → View
view p active d k go w = record { own = p; active = active; d = d; k = k; go = go; word = w }

-- what a step changes: its own record alone; and ACTIVE; and the word
abbrev pub changed : View → Port → Move
changed v p = record { own = p; active = v.active; word = v.word; makes = false; sets = false }

abbrev pub changed_active : View → ℕ → Port → Move
changed_active v a p = record { own = p; active = a; word = v.word; makes = false; sets = false }

abbrev pub changed_word : View → Word → Port → Move
changed_word v w p = record { own = p; active = v.active; word = w; makes = false; sets = false }

-- the call-off flag is up; the port's own bit stands in ACTIVE
abbrev pub up : View → Bool
up v = eqb v.own.flag 1

abbrev pub bit : View → Bool
bit v = stands v.active v.k

-- 17: compare and swap the word, (1, k, own spin) to (0, k, own spin)
unfoldable pub released : View → Word
unfolding swapped
released v = swapped v.word (word 1 v.k v.own.work.own) (word 0 v.k v.own.work.own)

-- x3: compare and swap the word, (0, seen owner, seen spin) to (1, candidate, candidate spin)
unfoldable pub granted : View → Word
unfolding swapped
granted v =
    swapped v.word (word 0 v.own.work.seenowner v.own.work.seenspin)
    (word 1 v.own.work.candidate v.own.work.candidatespin)

unfoldable pub step : Point → View → Move
unfolding released granted unasked
step none v = changed v v.own
step p0 v = changed v v.own
step p1 v = changed v (at (cond (eqb v.own.status CS) 11 (cond (eqb v.own.status EXIT) 13 2)) v.own)
step p2 v = changed v (at (cond (up v) 12 3) v.own)
step p3 v = changed v (at (cond (eqb v.own.go 0) 4 5) (with_own v.own.go v.own))
step p4 v = record { own = at 5 (new_spin v.own); active = v.active; word = v.word; makes = true; sets = false }
step p5 v = changed v (at (cond (bit v) 20 6) v.own)
step p6 v = changed_active v (added v.active (2 ^ v.k)) (at 20 v.own)
step p8 v = changed v (at (cond (eqb (read_spin v.own v.own.work.own) 1) 10 9) v.own)
step p9 v = changed v (at (cond (up v) 12 8) v.own)
step p10 v = changed v (at 11 (with_status CS v.own))
step p11 v = changed v v.own
step p12 v = changed v (at 14 (with_status ABORT v.own))
step p13 v = changed v (at 14 (with_status EXIT v.own))
step p14 v = changed v (at (cond (bit v) 15 16) v.own)
step p15 v = changed_active v (added v.active (2 ^ 64 - 2 ^ v.k)) (at 16 v.own)
step p16 v = changed v (at 30 (with_own v.own.go v.own))
step p17 v = changed_word v (released v) (at 40 v.own)
step p18 v = changed v (at 19 (with_go 0 v.own))
step p19 v = changed v (at 0 (with_status TRY (with_flag 0 v.own)))
step (x0 x) v = changed v (at (tens x + cond (eqb v.word.taken 1) 4 1) (with_seen v.word v.own))
step (x1 x) v =
    changed v (cond (eqb v.active 0) (unasked x v.k v.own)
    (at (tens x + 2) (with_candidate (next v.d v.own.work.seenowner v.active) v.own)))
step (x2 x) v = changed v (at (tens x + 3) (with_candidate_spin v.go v.own))
step (x3 x) v = changed_word v (granted v) (at (tens x + 4) v.own)
step (x4 x) v =
    changed v (cond (eqb v.word.taken 1 && ltb 0 v.word.spin)
    (at (tens x + 5) (with_seen v.word v.own)) (at (back x) v.own))
step (x5 x) v = record { own = at (back x) v.own; active = v.active; word = v.word; makes = false; sets = true }

-- a step can be made: there are at most 64 ports, its own and its seen owner's are among them, no bit of ACTIVE stands above them, and at 4 a spin is left to make
unfoldable pub sees : View → Bool
sees v =
    leb v.d 64 && ltb v.k v.d && ltb v.own.work.seenowner v.d && within v.d v.active
    && implies (eqb v.own.point 4) (ltb v.own.made most)

-- what it changes; nothing where it can't be made
unfoldable pub tried : View → Move
tried v = cond (sees v) (step (point_of v.own.point) v) (changed v v.own)
