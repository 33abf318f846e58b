-- The events by their names, from the letters that stand for them.
use Rattle.std.specs.Prelude.{cond, ℕ, eqb, Option, Some, None}
use Rattle.answers.specs.declared.Event.{Event}
use Rattle.answers.specs.declared.Event.TheVariants.{Enter, Step, Crash, CallOff, Leave}

-- the event that a letter stands for, by its name
abbrev pub told_event : ℕ → Option Event
told_event l =
    cond (eqb l 69) (Some Enter)
    (cond (eqb l 83) (Some Step)
    (cond (eqb l 88) (Some Crash)
    (cond (eqb l 65) (Some CallOff)
    (cond (eqb l 76) (Some Leave)
    None))))
