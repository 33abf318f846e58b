use Rattle.text.specs.Laws.Put.{puts_then}
use Rattle.text.proofs.putting.Sheet.order.Goals as goal

pub returns : goal.returns
returns c = puts_then (puts_then c.cell.ensures (puts_then c.put.ensures c.put-2.ensures)) c.cell-2.ensures
