use Rattle.std.proofs.Common.{length, ◌≡◌}
use Rattle.listing.specs.Took.{took}
use Rattle.schedule.proofs.feed_all.Given as goal

-- what is left of the piece is always still to be taken
abbrev pub invariant-loop-rest : goal.invariant-loop-rest
invariant-loop-rest g l = took l.fn.run l.piece ≡ took l.now l.rest

abbrev pub decreases-loop-rest : goal.decreases-loop-rest
decreases-loop-rest g l = length l.rest
