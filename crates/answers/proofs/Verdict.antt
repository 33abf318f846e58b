-- A result holds all that an answer and an outcome say: nothing is lost on the way to it.
use Rattle.std.specs.Prelude.{◌≡◌, Result, Ok, Err}
use Rattle.std.proofs.Common.{refl, arith}
use Rattle.model.specs.declared.Answer.{Answer}
use Rattle.model.specs.declared.Answer.TheVariants.{Done, BadTable, NoSuchPort, NoSuchEvent, Busy, Worn, NotInside, Idle, Inside, BadSize, ShortRoom, BadImage}
use Rattle.model.specs.declared.Outcome.{Outcome}
use Rattle.model.specs.Event.{number_of, answer_code}
use Rattle.model.specs.Run as Run
use Rattle.answers.specs.Verdict.{passed, paid, code_of}

-- the answer that a result stands for
abbrev pub answer_of : {A : Type 0} → Result A Answer → Answer
answer_of (Ok x) = Done
answer_of (Err a) = a

-- a result says all that the answer said
pub answer-passed : (a : Answer) → answer_of (passed a) ≡ a
unfolding passed
answer-passed Done = refl
answer-passed (BadTable f) = refl
answer-passed NoSuchPort = refl
answer-passed NoSuchEvent = refl
answer-passed Busy = refl
answer-passed Worn = refl
answer-passed NotInside = refl
answer-passed Idle = refl
answer-passed Inside = refl
answer-passed BadSize = refl
answer-passed ShortRoom = refl
answer-passed BadImage = refl

-- and all that an outcome said beside its table
pub answer-paid : (o : Outcome) → answer_of (paid o) ≡ o.answer
unfolding paid
answer-paid o = go o.answer
  where
    go : (a : Answer) → answer_of (paid (record { table = o.table; cached = o.cached; distributed = o.distributed; answer = a })) ≡ a
    go Done = refl
    go (BadTable f) = refl
    go NoSuchPort = refl
    go NoSuchEvent = refl
    go Busy = refl
    go Worn = refl
    go NotInside = refl
    go Idle = refl
    go Inside = refl
    go BadSize = refl
    go ShortRoom = refl
    go BadImage = refl

-- an outcome whose refusal costs nothing has the number that an order has in a run
pub code-paid : (o : Outcome) → ((number_of o.answer ≡ 0 → ⊥) → (o.cached ≡ 0) × (o.distributed ≡ 0)) → code_of (paid o) ≡ Run.code_of o
unfolding paid code_of answer_code Run.code_of
code-paid o free = go o.answer free
  where
    at : Answer → Outcome
    at a = record { table = o.table; cached = o.cached; distributed = o.distributed; answer = a }

    refused : (a : Answer) → (number_of a ≡ 0 → ⊥) → ((number_of a ≡ 0 → ⊥) → (o.cached ≡ 0) × (o.distributed ≡ 0)) → answer_code a ≡ Run.code_of (at a)
    refused a n f = let z = f n in rw (z.0, z.1) (omega arith)

    go : (a : Answer) → ((number_of a ≡ 0 → ⊥) → (o.cached ≡ 0) × (o.distributed ≡ 0)) → code_of (paid (at a)) ≡ Run.code_of (at a)
    go Done f = omega arith
    go (BadTable x) f = refused (BadTable x) (λ q. omega (arith, q)) f
    go NoSuchPort f = refused NoSuchPort (λ q. omega (arith, q)) f
    go NoSuchEvent f = refused NoSuchEvent (λ q. omega (arith, q)) f
    go Busy f = refused Busy (λ q. omega (arith, q)) f
    go Worn f = refused Worn (λ q. omega (arith, q)) f
    go NotInside f = refused NotInside (λ q. omega (arith, q)) f
    go Idle f = refused Idle (λ q. omega (arith, q)) f
    go Inside f = refused Inside (λ q. omega (arith, q)) f
    go BadSize f = refused BadSize (λ q. omega (arith, q)) f
    go ShortRoom f = refused ShortRoom (λ q. omega (arith, q)) f
    go BadImage f = refused BadImage (λ q. omega (arith, q)) f
