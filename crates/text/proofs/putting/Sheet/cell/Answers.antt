use Rattle.text.specs.Laws.Put.{puts_then}
use Rattle.text.proofs.putting.Sheet.cell.Goals as goal

pub returns : goal.returns
returns c = puts_then c.decimal.ensures c.put.ensures
