use Prim.Native.Nat.{◌<◌}
use native.Mathlib.Omega.{arith}
use Rattle.layout.specs.Laws.Inside.{places-small}
use Rattle.rules.proofs.faults.port_field.Goals as goal
use Rattle.rules.proofs.faults.port_field.Goals.{After-port_place}

-- the record of any port stands far below the code's greatest number
small : (c : After-port_place) → c.port_place.result < 5000
small c = omega (arith, c.port_place.ensures, (places-small c.args.k 0 c.ranges.k.fits (omega arith)).0)

pub overflow_cast-result : goal.overflow_cast-result
overflow_cast-result c = omega (arith, small (goal.at.overflow_cast-result c).After-port_place)

pub overflow_add-result : goal.overflow_add-result
overflow_add-result c = omega (arith, small (goal.at.overflow_add-result c).After-port_place, c.requires)

pub returns : goal.returns
returns c = rw c.port_place.ensures
