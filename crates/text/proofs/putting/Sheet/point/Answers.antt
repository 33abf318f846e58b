use borrow.Author.Tests.{ne_eqb}
use native.Mathlib.Omega.{arith}
use Rattle.text.specs.Text.{point_text}
use Rattle.text.specs.Laws.Put.{puts_then, puts_within}
use Rattle.text.proofs.putting.Sheet.point.Goals as goal

pub returns-then-answer-eq2 : goal.returns-then-answer-eq2
unfolding point_text
returns-then-answer-eq2 c =
    rw c.if-answer-eq2.true (puts_within (omega arith) (puts_then c.put.ensures c.put-then-answer-eq2.ensures))

pub returns-else-answer-eq2 : goal.returns-else-answer-eq2
unfolding point_text
returns-else-answer-eq2 c = rw (ne_eqb _ _ c.if-answer-eq2.false) c.cell.ensures
