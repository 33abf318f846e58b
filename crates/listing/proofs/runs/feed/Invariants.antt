use Rattle.listing.proofs.Laws.Taking.{Taking}
use Rattle.listing.proofs.runs.feed.Given as goal

abbrev pub invariant-loop-taken : goal.invariant-loop-taken
invariant-loop-taken l = Taking l.input l.initial.out l.initial.run l.out l.run l.taken l.written
