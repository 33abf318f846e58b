use Rattle.image.proofs.Laws.Reading.{Reading}
use Rattle.image.proofs.reader.fill.Given as goal

abbrev pub invariant-loop-k : goal.invariant-loop-k
invariant-loop-k l = Reading l.bytes l.d l.k l.table
