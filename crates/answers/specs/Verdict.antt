-- What an order comes to as the code holds it: the costs of one that is carried out, or why it is refused.
use Rattle.std.specs.Prelude.{cond, ℕ, ◌+◌, ◌*◌, eqb, Result, Ok, Err, ⊤}
use Rattle.model.specs.declared.Answer.{Answer}
use Rattle.model.specs.declared.Outcome.{Outcome}
use Rattle.model.specs.Event.{number_of, answer_code}
use Rattle.answers.specs.declared.Costs.{Costs}

-- an answer that is a refusal is an error
unfoldable pub passed : Answer → Result ⊤ Answer
passed a = cond (eqb (number_of a) 0) (Ok tt) (Err a)

-- what an outcome says beside its table
unfoldable pub paid : Outcome → Result Costs Answer
paid o =
    cond (eqb (number_of o.answer) 0) (Ok (record { cached = o.cached; distributed = o.distributed })) (Err o.answer)

-- the same in one number: 256 times the cached and 65,536 times the distributed cost, or the refusal's
unfoldable pub code_of : Result Costs Answer → ℕ
code_of (Ok c) = 256 * c.cached + 65536 * c.distributed
code_of (Err a) = answer_code a
