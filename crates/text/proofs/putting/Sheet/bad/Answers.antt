use native.Mathlib.Omega.{arith}
use Rattle.text.specs.Text.{bad}
use Rattle.text.specs.Laws.Put.{puts_then, puts_within}
use Rattle.text.proofs.putting.Sheet.bad.Goals as goal

pub returns : goal.returns
unfolding bad
returns c = puts_within (omega arith) (puts_then c.put.ensures (puts_then c.put-2.ensures (puts_then c.put-3.ensures (puts_then c.put-4.ensures c.cell.ensures))))
