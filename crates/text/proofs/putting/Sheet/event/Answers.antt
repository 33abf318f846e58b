use native.Mathlib.Omega.{arith}
use Rattle.text.specs.Text.{line}
use Rattle.text.specs.Laws.Put.{puts_then, puts_within}
use Rattle.text.proofs.putting.Sheet.event.Goals as goal

pub returns : goal.returns
unfolding line
returns c = puts_within (omega arith) (puts_then (puts_then (puts_then c.order.ensures c.state.ensures) c.word.ensures) c.costs.ensures)
