use Prim.Native.Nat.{◌+◌, ◌*◌, ◌≤◌, ◌<◌}
use native.Mathlib.Nat.{mul-le-mul}
use native.Mathlib.Omega.{arith}
use Rattle.layout.specs.Laws.Inside.{places-small}
use Rattle.rules.proofs.faults.copied_field.Goals as goal
use Rattle.rules.proofs.faults.copied_field.Goals.{After-set_width}

-- the place of the copy set is far below the code's greatest number
small : (c : After-set_width) → c.port_place.result + c.args.before * c.set_width.result < 12000
small c =
    let w : c.args.before * c.set_width.result ≤ 2 * 8 = mul-le-mul c.requires c.set_width.ensures.upper_bound in
    omega (arith, w, c.port_place.ensures, (places-small c.args.d 0 c.ranges.d.fits (omega arith)).0)

pub overflow_mul-at : goal.overflow_mul-at
overflow_mul-at c = omega (arith, small (goal.at.overflow_mul-at c).After-set_width)

pub overflow_add-at : goal.overflow_add-at
overflow_add-at c = omega (arith, small (goal.at.overflow_add-at c).After-set_width)

pub overflow_cast-result : goal.overflow_cast-result
overflow_cast-result c = omega (arith, small (goal.at.overflow_cast-result c).After-set_width)

pub returns : goal.returns
returns c = rw (c.port_place.ensures, c.set_width.ensures.value)
