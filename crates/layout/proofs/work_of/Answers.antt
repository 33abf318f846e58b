use Rattle.model.specs.Layout.{port_widths, port_of}
use Rattle.layout.specs.Laws.Records.{packed-cut}
use Rattle.layout.proofs.work_of.Goals as goal

pub returns : goal.returns
unfolding port_of port_widths
returns c = rw (packed-cut 0 port_widths _)
