-- The events of the code by their numbers.
use Rattle.std.specs.Prelude.{cond, ℕ, eqb, Result, Ok, Err}
use Rattle.model.specs.declared.Answer.{Answer}
use Rattle.model.specs.declared.Answer.TheVariants.{NoSuchEvent}
use Rattle.model.specs.Event.{enter, stepping, crash, call_off, leave}
use Rattle.answers.specs.declared.Event.{Event}
use Rattle.answers.specs.declared.Event.TheVariants.{Enter, Step, Crash, CallOff, Leave}

-- the event that a number stands for; another number is no event
abbrev pub event_of : ℕ → Result Event Answer
event_of e =
    cond (eqb e enter) (Ok Enter)
    (cond (eqb e stepping) (Ok Step)
    (cond (eqb e crash) (Ok Crash)
    (cond (eqb e call_off) (Ok CallOff)
    (cond (eqb e leave) (Ok Leave)
    (Err NoSuchEvent)))))
