-- A turn does what the definitions say of its byte, in each of the four ways it can go.
use Rattle.std.proofs.Common.{sym, refl, ◌∙◌}
use Rattle.lines.specs.declared.Act.TheVariants.{Keep, Open, Order, Bad}
use Rattle.listing.specs.Feed.{acted}
use Rattle.listing.proofs.Laws.Ordering.{line-printed}
use Rattle.listing.proofs.Laws.Taking.{turned, silent}
use Rattle.listing.proofs.runs.take.Goals as goal

pub returns-in-Keep : goal.returns-in-Keep
unfolding acted
returns-in-Keep c =
    let t = silent c.args.run.now c.args.b c.args.at c.args.out.now (Keep _) (sym c.act.ensures ∙ c.in-Keep.is) refl refl in
    record { run_after = t.0; value = t.1; out_after = t.2; upper_bound = t.3 }

pub returns-in-Open : goal.returns-in-Open
unfolding acted
returns-in-Open c =
    let t = silent c.args.run.now c.args.b c.args.at c.args.out.now (Open _) (sym c.act.ensures ∙ c.in-Open.is) (rw c.fresh.ensures) refl in
    record { run_after = t.0; value = t.1; out_after = t.2; upper_bound = t.3 }

pub returns-in-Order : goal.returns-in-Order
unfolding acted
returns-in-Order c =
    let o = c.order-paid.ensures in
    let l = rw (c.row-row.ensures, c.point_at-point.ensures, o.value, o.table_after, line-printed _ _ _ _ _) at c.put_row.ensures in
    let t = turned c.args.run.now c.args.b c.args.at c.args.out.now (Order _ _ _) (sym c.act.ensures ∙ c.in-Order.is) (rw o.table_after) l.value l.out_after l.upper_bound in
    record { run_after = t.0; value = t.1; out_after = t.2; upper_bound = t.3 }

pub returns-in-Bad : goal.returns-in-Bad
unfolding acted
returns-in-Bad c =
    let l = c.put_bad.ensures in
    let t = turned c.args.run.now c.args.b c.args.at c.args.out.now Bad (sym c.act.ensures ∙ c.in-Bad.is) refl l.value l.out_after l.upper_bound in
    record { run_after = t.0; value = t.1; out_after = t.2; upper_bound = t.3 }
