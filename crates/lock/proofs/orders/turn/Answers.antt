-- Refused, the table is as it was, and the answer is a number alone; else as of an order.
use mathlib.Core.Path.{◌≡◌, sym, ap, ◌∙◌}
use Rattle.model.specs.Table.{port_at}
use Rattle.model.specs.Event.{number_of}
use Rattle.answers.specs.Verdict.{code_of}
use Rattle.lock.specs.declared.orders.Acted.{Acted}
use Rattle.lock.specs.Ready.{passed-ok, passed-err}
use Rattle.lock.specs.Sight.{joined, plain_code}
use Rattle.lock.specs.Placed.{acted_at, reach-acted, Placed, placed, turned-away}
use Rattle.lock.proofs.orders.turn.Goals as goal
use Rattle.lock.proofs.orders.turn.Goals.{After-carried-left}

pub returns-in-Err : goal.returns-in-Err
unfolding code_of
returns-in-Err c =
    let t = c.args.table.now in
    let q = passed-err _ _ (sym c.in-Err.is ∙ c.first.ensures) in
    let o = turned-away t c.args.port c.args.event c.slot-k.result c.slot-k.ensures.value q.1 in
    record {
      value = c.number.ensures ∙ ap number_of q.0 ∙ sym (plain_code t.shared c.args.port c.args.event (port_at t c.slot-k.result)) ∙ ap code_of o.0;
      table_after = o.1;
    }

pub carried-left-requires : goal.carried-left-requires
carried-left-requires c =
    let r = c.reached-j.ensures in
    rw (r.shared, r.port, r.own) (passed-ok _ _ (sym c.in_default.is ∙ c.first.ensures))

module _ (c : After-carried-left) where
  left : c.carried-left.result ≡ acted_at c.args.table.now c.args.port c.args.event c.slot-k.result c.reached-j.result.0
  left =
      let r = c.reached-j.ensures in
      c.carried-left.ensures ∙ reach-acted c.args.table.now c.args.port c.args.event c.slot-k.result _ _ r.touch r.shared r.port r.own r.touched r.copies

  put : Placed c.args.table.now c.args.port c.args.event c.slot-k.result c.reached-j.result.0
  put = placed c.args.table.now c.args.port c.args.event c.slot-k.result _ c.slot-k.ensures.value c.reached-j.ensures.place

pub returns : goal.returns
returns c =
    let v = (goal.at.returns c).After-carried-left in
    record {
      value = c.code.ensures ∙ ap code_of (ap (λ (l : Acted). l.paid) (left v) ∙ (put v).value);
      table_after = c.put_back.ensures ∙ ap (joined c.args.table.now c.slot-k.result c.reached-j.result.0) (left v) ∙ (put v).table;
    }
