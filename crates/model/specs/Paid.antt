-- Orders on a table whose check has been paid before: only what a step needs in order to be carried out is looked at. On a good table they are the events.
use Rattle.std.specs.Prelude.{Bool, cond, not, ◌&&◌, ◌∷◌, ℕ, eqb, leb, ltb}
use Rattle.model.specs.declared.Port.{Port}
use Rattle.model.specs.declared.Shared.{Shared}
use Rattle.model.specs.declared.Table.{Table}
use Rattle.model.specs.declared.Outcome.{Outcome}
use Rattle.model.specs.declared.Answer.{Answer}
use Rattle.model.specs.declared.Answer.TheVariants.{BadTable, NoSuchPort}
use Rattle.model.specs.Table.{most, size_good, port_at}
use Rattle.model.specs.Mask.{within}
use Rattle.model.specs.Good.{whole}
use Rattle.model.specs.Cost.{free}
use Rattle.model.specs.Event.{number_of, refusals, first_of, carried}

-- what a step needs of its port: its seen owner and its candidate are ports, and made is a count of spins
unfoldable pub placed : ℕ → Port → Bool
placed d p = ltb p.work.seenowner d && ltb p.work.candidate d && leb p.made most

-- what an order answers from what all share and its port: BAD TABLE as a whole, 1.0, where a step would not have its places
unfoldable pub paid_answer : Shared → ℕ → ℕ → Port → Answer
paid_answer s k e p =
    first_of ((not (size_good s.d && within s.d s.active), BadTable whole)
    ∷ (leb s.d k, NoSuchPort) ∷ (not (placed s.d p), BadTable whole) ∷ refusals e p)

unfoldable pub paid_event : Table → ℕ → ℕ → Outcome
paid_event t k e =
    cond (eqb (number_of (paid_answer t.shared k e (port_at t k))) 0) (carried t k e)
    (free (paid_answer t.shared k e (port_at t k)) t)
