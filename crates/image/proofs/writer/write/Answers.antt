use Rattle.image.proofs.Laws.Writing.{ports-begun, ports-next, copies-begun, copies-next}
use Rattle.image.proofs.writer.write.Goals as goal

pub loop-k-init : goal.loop-k-init
loop-k-init c = ports-begun _ _

pub loop-k-preserved : goal.loop-k-preserved
loop-k-preserved c = ports-next c.args.table _ _ _ c.loop-k.k c.loop-k.invariant c.put_port.ensures

pub loop-j-init : goal.loop-j-init
loop-j-init c = copies-begun _ _

pub loop-j-preserved : goal.loop-j-preserved
loop-j-preserved c = copies-next c.args.table _ _ _ c.loop-j.j c.loop-j.invariant c.put_copies.ensures
