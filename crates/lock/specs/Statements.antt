-- Two results that meet the promise of a function for other crates are equal: each promise gives one value at every argument.
use Rattle.std.specs.Prelude.{◌≡◌, Bool, cond, ℕ, Result}
use Rattle.model.specs.declared.Port.{Port}
use Rattle.model.specs.declared.Copies.{Copies}
use Rattle.model.specs.declared.Shared.{Shared}
use Rattle.model.specs.declared.View.{View}
use Rattle.model.specs.declared.Move.{Move}
use Rattle.model.specs.declared.Touch.{Touch}
use Rattle.model.specs.declared.Table.{Table}
use Rattle.model.specs.declared.Answer.{Answer}
use Rattle.model.specs.Paid.{paid_event}
use Rattle.model.specs.Step.{with_value}
use Rattle.model.specs.Parts.Moves.{tried}
use Rattle.model.proofs.Statements.{one}
use Rattle.answers.specs.declared.Costs.{Costs}
use Rattle.answers.specs.Verdict.{paid}
use Rattle.lock.specs.declared.orders.Acted.{Acted}
use Rattle.lock.specs.Parts.{acted_on}

pub tried-one : (v : View) (r s : Move) → r ≡ tried v → s ≡ tried v → r ≡ s
tried-one v r s = one

pub marked-one : (sets : Bool) (p r s : Port) → r ≡ with_value (cond sets 1 p.value) p → s ≡ with_value (cond sets 1 p.value) p → r ≡ s
marked-one sets p r s = one

pub act-one : (u : Touch) (x : Shared) (k e : ℕ) (p q : Port) (c : Copies) (r s : Acted) → r ≡ acted_on u x k e p q c → s ≡ acted_on u x k e p q c → r ≡ s
act-one u x k e p q c r s = one

pub order-one : (t : Table) (k e : ℕ) (r s : Result Costs Answer) → r ≡ paid (paid_event t k e) → s ≡ paid (paid_event t k e) → r ≡ s
order-one t k e r s = one

pub order-table-one : (t : Table) (k e : ℕ) (r s : Table) → r ≡ (paid_event t k e).table → s ≡ (paid_event t k e).table → r ≡ s
order-table-one t k e r s = one
