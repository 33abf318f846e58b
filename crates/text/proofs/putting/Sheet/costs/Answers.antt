use Rattle.text.specs.Laws.Put.{puts_then}
use Rattle.text.proofs.putting.Sheet.costs.Goals as goal

pub returns : goal.returns
returns c = puts_then c.cell.ensures c.cell-2.ensures
