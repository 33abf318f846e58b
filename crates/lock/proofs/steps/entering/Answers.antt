-- The last arm is left with the points below 11 that have no step.
use Rattle.std.proofs.Common.{rules}
use mathlib.Core.Path.{sym, ◌∙◌}
use Rattle.lock.specs.Match.{entry_keys, outside, no-entry}
use Rattle.lock.proofs.steps.entering.Goals as goal

pub returns-in_default : goal.returns-in_default
returns-in_default c h =
    let v = c.args.v in
    c.changed-in_default.ensures ∙ sym (no-entry v.own.point v h (outside v.own.point entry_keys (search rules)))
