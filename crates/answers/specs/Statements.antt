-- Two results that meet the promise of a function of this crate are equal: each promise gives one value at every argument.
use Rattle.std.specs.Prelude.{◌≡◌, ℕ, Result, ⊤}
use Rattle.model.specs.declared.Port.{Port}
use Rattle.model.specs.declared.Shared.{Shared}
use Rattle.model.specs.declared.Made.{Made}
use Rattle.model.specs.declared.Answer.{Answer}
use Rattle.model.specs.Event.{number_of, fresh, first_of, refusals, ordered}
use Rattle.model.specs.Paid.{paid_answer}
use Rattle.answers.specs.Verdict.{passed, code_of}
use Rattle.answers.specs.Numbered.{event_of}
use Rattle.answers.specs.declared.Costs.{Costs}
use Rattle.answers.specs.declared.Event.{Event}
use Rattle.model.proofs.Statements.{one}

pub number-one : (a : Answer) (r s : ℕ) → r ≡ number_of a → s ≡ number_of a → r ≡ s
number-one a r s = one

pub fresh-one : (d : ℕ) (r s : Made) → r ≡ fresh d → s ≡ fresh d → r ≡ s
fresh-one d r s = one

pub refusal-one : (e : ℕ) (p : Port) (r s : Answer) → r ≡ first_of (refusals e p) → s ≡ first_of (refusals e p) → r ≡ s
refusal-one e p r s = one

pub refusal-passed-one : (e : ℕ) (p : Port) (r s : Result ⊤ Answer) → r ≡ passed (first_of (refusals e p)) → s ≡ passed (first_of (refusals e p)) → r ≡ s
refusal-passed-one e p r s = one

pub ordered-one : (e : ℕ) (p r s : Port) → r ≡ ordered e p → s ≡ ordered e p → r ≡ s
ordered-one e p r s = one

pub first_one : (s : Shared) (k e : ℕ) (p : Port) (r q : ℕ) → r ≡ number_of (paid_answer s k e p) → q ≡ number_of (paid_answer s k e p) → r ≡ q
first_one s k e p r q = one

pub first-passed-one : (s : Shared) (k e : ℕ) (p : Port) (r q : Result ⊤ Answer) → r ≡ passed (paid_answer s k e p) → q ≡ passed (paid_answer s k e p) → r ≡ q
first-passed-one s k e p r q = one

pub code-one : (c : Result Costs Answer) (r s : ℕ) → r ≡ code_of c → s ≡ code_of c → r ≡ s
code-one c r s = one

pub event-of-one : (n : ℕ) (r s : Result Event Answer) → r ≡ event_of n → s ≡ event_of n → r ≡ s
event-of-one n r s = one
