use Rattle.std.specs.Prelude.{◌≡◌}
use Rattle.image.proofs.Laws.Writing.{ports_put, copies_put}
use Rattle.image.proofs.writer.write.Given as goal

-- the ports below k are put into the room that the loop began with; so the copy sets of those below j
abbrev pub invariant-loop-k : goal.invariant-loop-k
invariant-loop-k l = l.room ≡ ports_put l.table l.initial.room l.k

abbrev pub invariant-loop-j : goal.invariant-loop-j
invariant-loop-j l = l.room ≡ copies_put l.table l.initial.room l.j
