use Rattle.std.proofs.Common.{arith, ◌∙◌}
use Rattle.records.specs.Laws.Rows.{value-two, value-eight}
use Rattle.records.proofs.codec.get.Goals as goal

pub returns-in-len2 : goal.returns-in-len2
returns-in-len2 c = c.from.ensures ∙ c.from_le_bytes.ensures ∙ value-two _ (omega (arith, c.in-len2.len_at_least, c.in-len2.len_below))

pub returns-in-len8 : goal.returns-in-len8
returns-in-len8 c = c.from_le_bytes-in-len8.ensures ∙ value-eight _ (omega (arith, c.in-len8.len_at_least, c.in-len8.len_below))
