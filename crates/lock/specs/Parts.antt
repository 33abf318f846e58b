-- One order on what it can see: the shared part, its own port, and the port that it touches. Promised by this crate to others: nobody needs to believe it.
use Rattle.std.specs.Prelude.{false, cond, ◌&&◌, ℕ, eqb, Result, Ok, Err}
use Rattle.model.specs.declared.Port.{Port}
use Rattle.model.specs.declared.Copies.{Copies}
use Rattle.model.specs.declared.Shared.{Shared}
use Rattle.model.specs.declared.View.{View}
use Rattle.model.specs.declared.Move.{Move}
use Rattle.model.specs.declared.Touch.{Touch}
use Rattle.model.specs.declared.Charge.{Charge}
use Rattle.model.specs.declared.Answer.{Answer}
use Rattle.model.specs.Table.{latest}
use Rattle.model.specs.Points.{point_of, settled}
use Rattle.model.specs.Event.{number_of, ordered}
use Rattle.model.specs.Parts.Moves.{view, step}
use Rattle.model.specs.Parts.Charges.{charge}
use Rattle.model.specs.Parts.Steps.{shared_after, copies_after}
use Rattle.model.specs.Paid.{paid_answer}
use Rattle.answers.specs.declared.Costs.{Costs}
use Rattle.lock.specs.declared.orders.Acted.{Acted}

-- what port k sees, where q is the port that it touches, and what its step changes
abbrev pub view_on : Shared → ℕ → Port → Port → View
view_on s k p q = view p s.active s.d k q.go s.word

abbrev pub move_on : Shared → ℕ → Port → Port → Move
move_on s k p q = step (point_of p.point) (view_on s k p q)

-- what an order costs
abbrev pub costs : ℕ → ℕ → Costs
costs m n = record { cached = m; distributed = n }

-- what its step leaves
abbrev pub left_by : Touch → Port → Port → Move → Charge → Acted
left_by u p q m x =
    record {
      own = settled m.own;
      copies = x.copies;
      shared = x.shared;
      sets = m.sets && latest q p.work.seenspin;
      paid = Ok (costs x.cached x.distributed);
    }

unfoldable pub stepped_on : Touch → Shared → ℕ → Port → Port → Copies → Acted
stepped_on u s k p q c =
    left_by u p q (move_on s k p q)
    (charge u k p.work q (shared_after (move_on s k p q) s) (copies_after (move_on s k p q) c))

-- what an order leaves that changes its port's record at most
abbrev pub kept : Port → Shared → Copies → Result Costs Answer → Acted
kept p s c r = record { own = p; copies = c; shared = s; sets = false; paid = r }

-- what the order leaves: refused, all as it was
unfoldable pub acted_on : Touch → Shared → ℕ → ℕ → Port → Port → Copies → Acted
acted_on u s k e p q c =
    cond (eqb (number_of (paid_answer s k e p)) 0)
    (cond (eqb e 2) (stepped_on u s k p q c) (kept (ordered e p) s c (Ok (costs 0 0))))
    (kept p s c (Err (paid_answer s k e p)))
