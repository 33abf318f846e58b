use Rattle.model.specs.Bytes.{unpack}
use Rattle.records.specs.Laws.Rows.{Getting}
use Rattle.records.proofs.codec.get_row.Given as goal

abbrev pub invariant-loop-i : goal.invariant-loop-i
invariant-loop-i g l = Getting l.form.widths l.i l.values l.rest (unpack l.form.widths l.bytes)
