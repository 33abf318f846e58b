-- A step put together from its parts: what the port sees, what it changes, which word it touches, and what that costs.
use Rattle.std.specs.Prelude.{Bool, cond, ◌&&◌, List, ℕ, get_or, set}
use Rattle.model.specs.declared.Work.{Work}
use Rattle.model.specs.declared.Port.{Port}
use Rattle.model.specs.declared.Copies.{Copies}
use Rattle.model.specs.declared.Shared.{Shared}
use Rattle.model.specs.declared.Table.{Table}
use Rattle.model.specs.declared.View.{View}
use Rattle.model.specs.declared.Move.{Move}
use Rattle.model.specs.declared.Touch.{Touch}
use Rattle.model.specs.declared.Charge.{Charge}
use Rattle.model.specs.declared.Outcome.{Outcome}
use Rattle.model.specs.declared.Answer.TheVariants.{Done}
use Rattle.model.specs.Table.{copies, shared, table, no_port, port_at, copies_at, latest}
use Rattle.model.specs.Points.{point_of, settled}
use Rattle.model.specs.Cost.{outcome}
use Rattle.model.specs.Step.{with_value}
use Rattle.model.specs.Parts.Moves.{view, step}
use Rattle.model.specs.Parts.Charges.{touch_at, home, charge}

-- the step of port k: which word it touches, the port that the word belongs to, what it sees, what it changes, what it costs
unfoldable pub touch_of : Table → ℕ → Touch
touch_of t k = touch_at (point_of (port_at t k).point)

unfoldable pub home_of : Table → ℕ → ℕ
home_of t k = home (touch_of t k).cell k (port_at t k).work

unfoldable pub view_of : Table → ℕ → View
view_of t k = view (port_at t k) t.shared.active t.shared.d k (port_at t (home_of t k)).go t.shared.word

unfoldable pub move_of : Table → ℕ → Move
move_of t k = step (point_of (port_at t k).point) (view_of t k)

-- what all share with the move's ACTIVE and word; the copies of a port's words, with none of a spin that is new
abbrev pub shared_after : Move → Shared → Shared
shared_after m s = shared m.active s.activecopies s.wordcopies s.d m.word

abbrev pub copies_after : Move → Copies → Copies
copies_after m c = copies c.status c.go (cond m.makes 0 c.spin)

unfoldable pub charge_of : Table → ℕ → Charge
charge_of t k =
    charge (touch_of t k) k (port_at t k).work (port_at t (home_of t k))
    (shared_after (move_of t k) t.shared) (copies_after (move_of t k) (copies_at t (home_of t k)))

-- a move sets the seen spin of the port that it touches, q; a write to an older spin changes nothing. The ports with that spin set to 1
abbrev pub setting : Move → Port → Work → Bool
setting m q w = m.sets && latest q w.seenspin

abbrev pub marks : Table → ℕ → Bool
marks t k = setting (move_of t k) (port_at t (home_of t k)) (port_at t k).work

unfoldable pub marked : Table → ℕ → List Port → List Port
marked t k ps = cond (marks t k) (set ps (home_of t k) (with_value 1 (get_or ps (home_of t k) no_port))) ps

unfoldable pub stepped : Table → ℕ → Outcome
stepped t k =
    outcome (table (marked t k (set t.ports k (settled (move_of t k).own)))
    (set t.copies (home_of t k) (charge_of t k).copies) (charge_of t k).shared)
    (charge_of t k).cached (charge_of t k).distributed Done
