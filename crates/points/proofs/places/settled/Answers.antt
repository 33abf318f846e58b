use Rattle.model.specs.Points.{settled}
use Rattle.points.specs.Places.{own-table, seen-table, candidate-table, candidate-spin-table, kept}
use Rattle.points.proofs.places.settled.Goals as goal

pub returns : goal.returns
unfolding settled
returns c =
    let n = c.args.p.point in
    let w = c.args.p.work in
    rw (
      ← own-table n,
      ← seen-table n,
      ← candidate-table n,
      ← candidate-spin-table n,
      ← c.has-seen.ensures,
      ← c.has.ensures,
      ← c.has-2.ensures,
      ← c.has-3.ensures,
      kept _ _ w.own 0 c.kept.ensures.kept c.kept.ensures.gone,
      kept _ _ w.seenspin 0 c.kept-2.ensures.kept c.kept-2.ensures.gone,
      kept _ _ w.candidatespin 0 c.kept-3.ensures.kept c.kept-3.ensures.gone,
      kept _ _ w.seenowner 0 c.kept-4.ensures.kept c.kept-4.ensures.gone,
      kept _ _ w.candidate 0 c.kept-5.ensures.kept c.kept-5.ensures.gone,
    )
