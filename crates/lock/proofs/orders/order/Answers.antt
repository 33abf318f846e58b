-- Refused, the table is as it was; else the records at the places of its port and of the port that it touches are those that the order leaves.
use mathlib.Core.Path.{◌≡◌, sym, ap, ◌∙◌}
use Rattle.std.proofs.lemmas.Result.{err_from_is_err_and}
use Rattle.lock.specs.declared.orders.Acted.{Acted}
use Rattle.lock.specs.Sight.{joined}
use Rattle.lock.specs.Placed.{acted_at, reach-acted, Placed, placed}
use Rattle.lock.proofs.orders.order.Goals as goal
use Rattle.lock.proofs.orders.order.Goals.{After-act-left}

module _ (c : After-act-left) where
  -- what the order leaves, and that it is what the definitions say
  left : c.act-left.result ≡ acted_at c.args.table.now c.args.port c.args.event c.slot-k.result c.reached-j.result.0
  left =
      let r = c.reached-j.ensures in
      c.act-left.ensures ∙ reach-acted c.args.table.now c.args.port c.args.event c.slot-k.result _ _ r.touch r.shared r.port r.own r.touched r.copies

  put : Placed c.args.table.now c.args.port c.args.event c.slot-k.result c.reached-j.result.0
  put = placed c.args.table.now c.args.port c.args.event c.slot-k.result _ c.slot-k.ensures.value c.reached-j.ensures.place

  paid : c.act-left.result.paid ≡ (acted_at c.args.table.now c.args.port c.args.event c.slot-k.result c.reached-j.result.0).paid
  paid = ap (λ (l : Acted). l.paid) left

pub returns-in_err-costs-clause-value : goal.returns-in_err-costs-clause-value
returns-in_err-costs-clause-value c =
    let v = (goal.at.returns-in_err-costs-clause-value c).After-act-left in
    let p = err_from_is_err_and c.from_residual.result c.from_residual.ensures.1 in
    rw (p.1, p.2) (sym c.in_err-costs.was ∙ paid v ∙ (put v).value)

pub returns-in_err-costs-clause-table_after : goal.returns-in_err-costs-clause-table_after
returns-in_err-costs-clause-table_after c =
    let v = (goal.at.returns-in_err-costs-clause-table_after c).After-act-left in
    (put v).unmoved _ (sym (paid v) ∙ c.in_err-costs.was)

pub returns-clause-value : goal.returns-clause-value
returns-clause-value c =
    let v = (goal.at.returns-clause-value c).After-act-left in
    sym c.in_ok-costs.was ∙ paid v ∙ (put v).value

pub returns-clause-table_after : goal.returns-clause-table_after
returns-clause-table_after c =
    let v = (goal.at.returns-clause-table_after c).After-act-left in
    c.put_back.ensures ∙ ap (joined c.args.table.now c.slot-k.result c.reached-j.result.0) (left v) ∙ (put v).table
