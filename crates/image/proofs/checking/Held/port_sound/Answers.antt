-- The rules that are tested, and those that need not be, are together the rules for a port.
use mathlib.Core.Path.{◌≡◌, refl, sym, ap, ◌∙◌}
use Prim.Native.Nat.{ℕ, ◌<◌}
use Rattle.model.specs.declared.Table.{Table}
use Rattle.model.specs.Table.{port_at}
use Rattle.model.specs.Parts.Good.{place_good}
use Rattle.model.specs.Parts.Rules.{port_tests}
use Rattle.points.specs.Places.{seen-table}
use Rattle.image.proofs.Laws.Checking.{seen-port, seen-copies, port-sound}
use Rattle.image.proofs.checking.Held.port_sound.Goals as goal
use Rattle.image.proofs.checking.Held.port_sound.Goals.{After-copies_in-c}

-- what is to be shown, with made of the ports that it has seen
whole : (c : After-copies_in-c) (a b : ℕ) → (c.port_in-p.result.work.seenowner < c.args.self.now.shared.d → a ≡ (port_at c.args.self.now c.port_in-p.result.work.seenowner).made)
    → (c.port_in-p.result.work.candidate < c.args.self.now.shared.d → b ≡ (port_at c.args.self.now c.port_in-p.result.work.candidate).made)
    → port_tests c.self.inside.shared c.args.k c.port_in-p.result c.copies_in-c.result a b ≡ place_good c.args.self.now c.args.k
whole c a b f g =
    let t = c.args.self.now in
    let i = c.self.inside in
    let v = c.self.invariant in
    port-sound t c.args.k i.shared c.port_in-p.result c.copies_in-c.result a b c.requires (v.2 ∙ ap (λ (t : Table). t.shared) c.self.view_is)
    (c.port_in-p.ensures ∙ seen-port t i.bytes.now i.d v.0 v.1 c.self.view_is c.args.k c.requires)
    (c.copies_in-c.ensures ∙ seen-copies t i.bytes.now i.d v.0 v.1 c.self.view_is c.args.k c.requires)
    f
    g

pub returns-then-not-own_good : goal.returns-then-not-own_good
unfolding port_tests
returns-then-not-own_good c =
    let t = c.args.self.now in
    let w = c.port_in-p.result.work in
    rw (sym c.own_good.ensures ∙ c.if-not-own_good.true)
    at (whole (goal.at.returns-then-not-own_good c).After-copies_in-c (port_at t w.seenowner).made (port_at t w.candidate).made (λ _. refl) (λ _. refl))

pub returns-then-not-has : goal.returns-then-not-has
unfolding port_tests
returns-then-not-has c =
    let t = c.args.self.now in
    let w = c.port_in-p.result.work in
    c.unseen_good.ensures
    ∙ (rw (sym c.own_good.ensures ∙ c.if-not-own_good.false, sym (seen-table c.port_in-p.result.point) ∙ sym c.has.ensures ∙ c.if-not-has.true)
    at (whole (goal.at.returns-then-not-has c).After-copies_in-c (port_at t w.seenowner).made (port_at t w.candidate).made (λ _. refl) (λ _. refl)))

pub returns : goal.returns
unfolding port_tests
returns c =
    c.seen_good.ensures
    ∙ (rw (sym c.own_good.ensures ∙ c.if-not-own_good.false, sym (seen-table c.port_in-p.result.point) ∙ sym c.has.ensures ∙ c.if-not-has.false)
    at (whole (goal.at.returns c).After-copies_in-c c.made.result c.made-2.result c.made.ensures c.made-2.ensures))
