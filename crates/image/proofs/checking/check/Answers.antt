use mathlib.Core.Path.{sym, ◌∙◌}
use Rattle.image.proofs.Laws.Held.{shared-held, is-image}
use Rattle.image.proofs.Laws.Checking.{some-ports, no-ports, checks-none, checks-good}
use Rattle.image.proofs.Laws.Reading.{d-byte}
use Rattle.image.proofs.checking.check.Goals as goal

pub returns-in_default : goal.returns-in_default
returns-in_default c = sym (checks-none _ (no-ports _ (sym c.ports_in.ensures ∙ c.in_default.is)))

pub invariant_of-image : goal.invariant_of-image
invariant_of-image c =
    let p = some-ports _ _ (sym c.ports_in.ensures ∙ c.in-Some.is) in
    (p.1, p.0, c.shared_in.ensures ∙ shared-held c.args.bytes.now _ p.0 p.1)

pub returns : goal.returns
returns c =
    let p = some-ports _ _ (sym c.ports_in.ensures ∙ c.in-Some.is) in
    let b = d-byte c.args.bytes.now ∙ sym (is-image _ _ p.0 p.1).1 in
    rw (c.d_in.ensures, b) (sym (checks-good _ _ p.0 p.1 (sym c.sound.ensures ∙ c.if-not-sound.false)))
