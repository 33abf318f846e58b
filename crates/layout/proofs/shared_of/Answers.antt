use Rattle.std.proofs.Common.{mod-eq_of_lt}
use Rattle.model.specs.Layout.{shared_widths, shared_of}
use Rattle.layout.specs.Laws.Records.{packed-cut}
use Rattle.layout.proofs.shared_of.Goals as goal

pub returns : goal.returns
unfolding shared_of shared_widths
returns c = rw (packed-cut 0 shared_widths _, mod-eq_of_lt c.element_fits4.fits)
