-- Events and refusals (document 01, 'Events' and 'Refusal numbers').
use Rattle.std.specs.Prelude.{Bool, cond, not, ◌&&◌, ◌||◌, List, [], ◌∷◌, ℕ, ◌+◌, ◌*◌, eqb, leb}
use Rattle.model.specs.declared.Port.{Port}
use Rattle.model.specs.declared.Table.{Table}
use Rattle.model.specs.declared.Outcome.{Outcome}
use Rattle.model.specs.declared.Made.{Made}
use Rattle.model.specs.declared.Fault.{Fault}
use Rattle.model.specs.declared.Answer.{Answer}
use Rattle.model.specs.declared.Answer.TheVariants.{Done, BadTable, NoSuchPort, NoSuchEvent, Busy, Worn, NotInside, Idle, Inside, BadSize, ShortRoom, BadImage}
use Rattle.model.specs.Table.{most, size_good, no_work, port_at, put_port, fresh_table}
use Rattle.model.specs.Points.{point_of}
use Rattle.model.specs.Good.{whole, good, bad_in}
use Rattle.model.specs.Cost.{free}
use Rattle.model.specs.Step.{at, with_flag, with_work, step}

-- document 01's number for every answer
abbrev pub number_of : Answer → ℕ
number_of Done = 0
number_of (BadTable f) = 1
number_of NoSuchPort = 2
number_of NoSuchEvent = 3
number_of Busy = 4
number_of Worn = 5
number_of NotInside = 6
number_of Idle = 7
number_of Inside = 8
number_of BadSize = 9
number_of ShortRoom = 10
number_of BadImage = 11

-- what goes with BAD TABLE; and an answer in one number: document 01's, and from bit 8, 16 and 24 on the kind, the port and the place
abbrev pub fault_in : Answer → Fault
fault_in (BadTable f) = f
fault_in Done = whole
fault_in NoSuchPort = whole
fault_in NoSuchEvent = whole
fault_in Busy = whole
fault_in Worn = whole
fault_in NotInside = whole
fault_in Idle = whole
fault_in Inside = whole
fault_in BadSize = whole
fault_in ShortRoom = whole
fault_in BadImage = whole

unfoldable pub answer_code : Answer → ℕ
answer_code a = number_of a + 256 * (fault_in a).kind + 65536 * (fault_in a).port + 16777216 * (fault_in a).place

-- the numbers of the events
abbrev pub enter : ℕ
enter = 1

abbrev pub stepping : ℕ
stepping = 2

abbrev pub crash : ℕ
crash = 3

abbrev pub call_off : ℕ
call_off = 4

abbrev pub leave : ℕ
leave = 5

-- the answer of the first test that passes, or else DONE
unfoldable pub first_of : List (Bool × Answer) → Answer
first_of [] = Done
first_of (r ∷ rs) = cond r.0 r.1 (first_of rs)

-- the refusals of an event at a port that there is, lowest first, each with when it is given; what an event on a table answers
unfoldable pub refusals : ℕ → Port → List (Bool × Answer)
refusals e p =
    (not (leb 1 e && leb e 5), NoSuchEvent)
    ∷ (eqb e enter && not (eqb p.point 0), Busy)
    ∷ (((eqb e enter && eqb p.point 0) || (eqb e stepping && eqb p.point 4)) && eqb p.made most, Worn)
    ∷ (eqb e leave && not (eqb p.point 11), NotInside)
    ∷ ((eqb e stepping || eqb e crash || eqb e call_off) && eqb p.point 0, Idle)
    ∷ (eqb e stepping && eqb p.point 11, Inside)
    ∷ []

unfoldable pub refusal : Table → ℕ → ℕ → Answer
unfolding first_of
refusal t k e = first_of ((not (good t), BadTable (bad_in t)) ∷ (leb t.shared.d k, NoSuchPort) ∷ refusals e (port_at t k))

-- a port after an event that is no step. E: point 0 becomes 1. X: point becomes 1, working values 0, nothing else. A: flag becomes 1.
-- L: point 11 becomes 13
unfoldable pub ordered : ℕ → Port → Port
ordered e p =
    cond (eqb e enter) (at 1 p) (cond (eqb e crash) (at 1 (with_work no_work p)) (cond (eqb e call_off) (with_flag 1 p) (at 13 p)))

-- an event that is not refused; only S costs anything
unfoldable pub carried : Table → ℕ → ℕ → Outcome
carried t k e =
    cond (eqb e stepping) (step (point_of (port_at t k).point) t k (port_at t k)) (free Done (put_port t k (ordered e (port_at t k))))

unfoldable pub event : Table → ℕ → ℕ → Outcome
event t k e = cond (eqb (number_of (refusal t k e)) 0) (carried t k e) (free (refusal t k e) t)

-- a fresh table: D not 1 to the room is BAD SIZE with the fresh table of D = 1
unfoldable pub fresh : ℕ → Made
fresh d =
    cond (size_good d) (record { table = fresh_table d; answer = Done }) (record { table = fresh_table 1; answer = BadSize })
