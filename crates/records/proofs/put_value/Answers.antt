use Rattle.std.proofs.Common.{arith}
use Rattle.layout.specs.Laws.Inside.{places-small}
use Rattle.records.proofs.put_value.Goals as goal

pub overflow_add-port_place : goal.overflow_add-port_place
overflow_add-port_place c = omega (arith, c.port_place.ensures, (places-small c.args.k 0 c.ranges.k.fits (omega arith)).0)
