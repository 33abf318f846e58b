use Rattle.std.proofs.lemmas.List.Edits.{sets}
use Rattle.model.specs.Bytes.{pack}
use Rattle.records.specs.Laws.Rows.{Putting}
use Rattle.records.proofs.codec.put_row.Given as goal

abbrev pub invariant-loop-w : goal.invariant-loop-w
invariant-loop-w g l = Putting l.w-iterator.a.rest.now l.w-iterator.b.rest.now l.i l.room (sets l.initial.room l.at (pack l.widths l.values))
