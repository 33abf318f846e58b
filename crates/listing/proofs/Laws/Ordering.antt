-- The line that an order prints, from what it comes to and the table that it leaves.
use Rattle.std.specs.Prelude.{◌≡◌, ℕ, eqb, refl}
use Rattle.model.specs.declared.Table.{Table}
use Rattle.model.specs.declared.Outcome.{Outcome}
use Rattle.model.specs.declared.Answer.TheVariants.{Done}
use Rattle.model.specs.Table.{port_at}
use Rattle.model.specs.Event.{number_of, stepping, carried}
use Rattle.model.specs.Parts.Steps.{stepped}
use Rattle.model.specs.Paid.{paid_answer, paid_event}
use Rattle.model.proofs.Laws.Tests.{split}
use Rattle.model.proofs.Laws.Stepped.{carried-parts}
use Rattle.answers.specs.Verdict.{paid}
use Rattle.text.specs.Text.{printed}
use Rattle.text.specs.Parts.{row_text}
use Rattle.listing.specs.Turn.{row_of}

-- its line, where it answers DONE or costs nothing
abbrev Printed : ℕ → ℕ → ℕ → Outcome → Type 0
Printed n l k o = row_text (row_of n l k (paid o) (port_at o.table k).point o.table.shared) ≡ printed n l k o

done : (n l k : ℕ) (o : Outcome) → o.answer ≡ Done → Printed n l k o
unfolding paid
done n l k o h = rw h

carried-done : (t : Table) (k e : ℕ) → (carried t k e).answer ≡ Done
unfolding stepped
carried-done t k e = rw (carried-parts t k e) (split (λ (o : Outcome). o.answer ≡ Done) (eqb e stepping) _ _ (λ q. refl) (λ q. refl))

pub line-printed : (t : Table) (k e n l : ℕ) → Printed n l k (paid_event t k e)
unfolding paid_event paid
line-printed t k e n l =
    split (Printed n l k) (eqb (number_of (paid_answer t.shared k e (port_at t k))) 0) _ _
    (λ q. done n l k (carried t k e) (carried-done t k e))
    (λ q. rw q)
