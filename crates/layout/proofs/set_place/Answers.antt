use Prim.Native.Nat.{◌+◌, ◌*◌, ◌<◌}
use native.Mathlib.Omega.{arith}
use Rattle.layout.specs.Laws.Inside.{places-small}
use Rattle.layout.proofs.set_place.Goals as goal
use Rattle.layout.proofs.set_place.Goals.{After-set_width-w}

-- a copy set that all share, and one of port j, stand far below the code's greatest number
small : (c : After-set_width-w) → (c.port_place-all.result + c.set_width-w.result < 5008) × (c.copies_place-at.result + 2 * c.set_width-w.result < 11016)
small c =
    let h = places-small c.args.d c.args.j c.ranges.d.fits c.ranges.j.fits in
    let w = c.set_width-w.ensures.upper_bound in
    (omega (arith, h.0, w, c.port_place-all.ensures), omega (arith, h.1, w, c.copies_place-at.ensures))

pub overflow_add-result : goal.overflow_add-result
overflow_add-result c = omega (arith, (small (goal.at.overflow_add-result c).After-set_width-w).1)

pub overflow_add-result-in-Spin : goal.overflow_add-result-in-Spin
overflow_add-result-in-Spin c = omega (arith, (small (goal.at.overflow_add-result-in-Spin c).After-set_width-w).1)

pub overflow_add-result-in-Lock : goal.overflow_add-result-in-Lock
overflow_add-result-in-Lock c = omega (arith, (small (goal.at.overflow_add-result-in-Lock c).After-set_width-w).0)

pub overflow_add-result-in-CandidateGo : goal.overflow_add-result-in-CandidateGo
overflow_add-result-in-CandidateGo c = omega (arith, (small (goal.at.overflow_add-result-in-CandidateGo c).After-set_width-w).1)

pub overflow_add-result-in-SeenSpin : goal.overflow_add-result-in-SeenSpin
overflow_add-result-in-SeenSpin c = omega (arith, (small (goal.at.overflow_add-result-in-SeenSpin c).After-set_width-w).1)
