-- What is proved of the lines that are printed, for a reader who knows the definitions and no proof.
use Rattle.std.specs.Prelude.{◌≡◌, refl, true, List, [], ◌∷◌, ℕ, ◌+◌, ◌≤◌, ◌<◌, length, get_or}
use Rattle.std.proofs.Common.{arith}
use Rattle.std.proofs.lemmas.List.Edits.{sets}
use Rattle.model.specs.declared.Table.{Table}
use Rattle.model.specs.Good.{good}
use Rattle.model.specs.Event.{number_of, event}
use Rattle.model.proofs.Laws.Paid.{no-port}
use Rattle.model.proofs.Statements.{one}
use Rattle.lines.specs.Line.{space, nought, digit, value_of}
use Rattle.text.specs.Text.{decimal, point_text}
use Rattle.text.specs.Laws.Decimal.{digits-one}
use Rattle.text.specs.Laws.Value.{read_back, all_digits, first_above, other-form}

-- 'All numbers in decimal': the digits of a number stand for it
pub in-decimal : (n : ℕ) → value_of (decimal n) ≡ n
in-decimal = read_back

-- and they are its one decimal form: each is a digit; 0 is the single digit 0, and any other number begins with a digit above 0
pub one_form : (n : ℕ) → ((i : ℕ) → i < length (decimal n) → digit (get_or (decimal n) i 0) ≡ true) × (decimal 0 ≡ nought ∷ [])
    × (0 < n → nought < get_or (decimal n) 0 0)
one_form n = (all_digits n, digits-one 0 (omega arith), first_above n)

-- no other digits of that form stand for the number: digits of which the first is above 0 are printed for the number that they stand for
pub no-other-form : (ds : List ℕ) → ((i : ℕ) → i < length ds → digit (get_or ds i 0) ≡ true) → nought < get_or ds 0 0 → decimal (value_of ds) ≡ ds
no-other-form = other-form

-- 'Point after (`-` if no such port)': a port at or above D is answered 2 and `-`, whatever the event
pub absent-port : (t : Table) (k e point : ℕ) → good t ≡ true → t.shared.d ≤ k
    → (number_of (event t k e).answer ≡ 2) × (point_text (number_of (event t k e).answer) point ≡ 45 ∷ space ∷ [])
unfolding point_text
absent-port t k e point g h = rw (no-port t k e g h) (refl, refl)

-- Two results that meet a promise are equal, and so are two contents of the buffer: whatever the text that is put, the line or nothing
pub put_one : (out text : List ℕ) (at m n : ℕ) (x y : List ℕ)
    → m ≡ at + length text
    → x ≡ sets out at text
    → n ≡ at + length text
    → y ≡ sets out at text
    → (m ≡ n) × (x ≡ y)
put_one out text at m n x y p q u v = (one p u, one q v)
