use Rattle.std.proofs.Common.{sym, ap, ◌∙◌, arith}
use Rattle.model.specs.Table.{room}
use Rattle.rules.specs.Check.{size-good-fits}
use Rattle.model.specs.Layout.{head_widths}
use Rattle.records.specs.Records.{some_ports}
use Rattle.records.specs.Laws.Head.{too_short, wrong_size, wrong-length}
use Rattle.records.proofs.ports_in.Goals as goal

pub returns-then-bytes-lt-HEAD_SIZE : goal.returns-then-bytes-lt-HEAD_SIZE
unfolding some_ports
returns-then-bytes-lt-HEAD_SIZE c = ap some_ports (too_short _ c.if-bytes-lt-HEAD_SIZE.true)

pub returns-then-not-size_good : goal.returns-then-not-size_good
unfolding some_ports head_widths
returns-then-not-size_good c = ap some_ports (wrong_size _ _ c.get_row-v.ensures (sym c.size_good.ensures ∙ c.if-not-size_good.true))

pub overflow_cast-n : goal.overflow_cast-n
unfolding room
overflow_cast-n c = omega (arith, (size-good-fits _ (sym c.size_good.ensures ∙ c.if-not-size_good.false)).1)

pub returns-then-bytes-size : goal.returns-then-bytes-size
unfolding some_ports head_widths
returns-then-bytes-size c = ap some_ports (wrong-length _ _ c.get_row-v.ensures (λ e. c.if-bytes-size.true (e ∙ sym c.size.ensures)))
