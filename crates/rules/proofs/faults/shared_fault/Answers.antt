use mathlib.Core.Path.{◌≡◌, sym, ap, ◌∙◌}
use mathlib.Core.Bool.{true, false, ◌&&◌, and-eq-true_iff}
use mathlib.Core.List.{List, foldl}
use Rattle.model.specs.declared.Fault.{Fault}
use Rattle.model.specs.Table.{room, size_good}
use Rattle.model.specs.Good.{Rule, fault, lower, nowhere}
use Rattle.model.proofs.Laws.Faults.{whole-first}
use Rattle.rules.specs.Check.{size-good-fits}
use Rattle.rules.specs.Faults.{zeros, after-start}
use Rattle.rules.proofs.faults.shared_fault.Goals as goal
use Rattle.rules.proofs.faults.shared_fault.Goals.{After-default-2}

-- D is in range and the room above it is empty
whole : (c : After-default-2) → (size_good c.args.s.d && c.args.empty) ≡ true
whole c = rw (sym c.size_good.ensures) (c.if-not-size_good-empty.false)

pub returns-then-not-size_good-empty : goal.returns-then-not-size_good-empty
returns-then-not-size_good-empty c =
    let e : (size_good c.args.s.d && c.args.empty) ≡ false = rw (sym c.size_good.ensures) (c.if-not-size_good-empty.true) in
    zeros _ c.default.ensures ∙ sym (whole-first c.args.empty c.args.s c.args.ownermade e)

pub shared_rules-requires : goal.shared_rules-requires
unfolding room
shared_rules-requires c =
    (size-good-fits c.args.s.d ((and-eq-true_iff (size_good c.args.s.d) c.args.empty).0 (whole (goal.at.shared_rules-requires c).After-default-2)).0).1

pub returns : goal.returns
returns c =
    let z : fault c.default-2.result.kind c.default-2.result.port 65535 ≡ nowhere = rw (c.default-2.ensures.0, c.default-2.ensures.1.0) in
    c.lowest.ensures
    ∙ ap (λ (f : Fault). foldl lower f c.shared_rules.result) z
    ∙ ap (λ (rs : List Rule). foldl lower nowhere rs) c.shared_rules.ensures
    ∙ after-start c.args.empty c.args.s c.args.ownermade (whole (goal.at.returns c).After-default-2)
