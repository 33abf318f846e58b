use mathlib.Core.Path.{◌∙◌}
use Rattle.lock.specs.Ready.{passed}
use Rattle.lock.specs.Acted.{sight-on, act-ordered, act-stepped}
use Rattle.lock.proofs.orders.Reach.carried.Goals as goal

pub stepped-requires : goal.stepped-requires
stepped-requires c =
    let r = c.args.self.now in
    sight-on r.shared r.port c.args.event r.own r.touched (passed _ _ _ _ c.requires) c.if-event.true

pub returns-then-event : goal.returns-then-event
returns-then-event c =
    let r = c.args.self.now in
    c.stepped.ensures ∙ act-stepped r.touch r.shared r.port c.args.event r.own r.touched r.copies c.requires c.if-event.true

pub returns : goal.returns
returns c =
    let r = c.args.self.now in
    rw (c.kept.ensures, c.ordered-own.ensures) (act-ordered r.touch r.shared r.port c.args.event r.own r.touched r.copies c.requires c.if-event.false)
