-- What is printed (document 01, 'Sample lines'): a line for each event, and `BAD` with its number for a malformed line.
use Rattle.std.specs.Prelude.{cond, List, [], ◌∷◌, ◌++◌, ℕ, zero, suc, ◌+◌, ◌/◌, ◌%◌, eqb, ltb}
use Rattle.model.specs.declared.Shared.{Shared}
use Rattle.model.specs.declared.Outcome.{Outcome}
use Rattle.model.specs.Table.{port_at}
use Rattle.model.specs.Event.{number_of}
use Rattle.lines.specs.Line.{newline, space, nought}

-- the digits of n, in at most as many turns as are given; n is large enough for a turn to each of its digits
unfoldable pub digits_in : ℕ → ℕ → List ℕ
digits_in zero n = []
digits_in (suc turns) n = cond (ltb n 10) ((nought + n) ∷ []) (digits_in turns (n / 10) ++ (nought + n % 10) ∷ [])

unfoldable pub decimal : ℕ → List ℕ
decimal n = digits_in (suc n) n

-- a number and the byte after it
abbrev pub cell : ℕ → ℕ → List ℕ
cell n after = decimal n ++ after ∷ []

-- point after: `-` where the answer is NO SUCH PORT
unfoldable pub point_text : ℕ → ℕ → List ℕ
point_text answer point = cond (eqb answer 2) (45 ∷ space ∷ []) (cell point space)

-- 'line number, event, port, answer, point after (`-` if no such port), ACTIVE, word as taken.owner.spin, cached cost, distributed cost, all numbers in
-- decimal': the event by its letter, ACTIVE and the word from what all ports share; byte 46 is the dot
unfoldable pub line : ℕ → ℕ → ℕ → ℕ → ℕ → Shared → ℕ → ℕ → List ℕ
line n letter port answer point s cached distributed =
    (cell n space ++ (letter ∷ space ∷ []) ++ cell port space) ++ (cell answer space ++ point_text answer point ++ cell s.active space)
    ++ (cell s.word.taken 46 ++ cell s.word.owner 46 ++ cell s.word.spin space) ++ (cell cached space ++ cell distributed newline)

-- what is printed for an event's outcome: line number, letter, port, and what the event at that port gave
abbrev pub printed : ℕ → ℕ → ℕ → Outcome → List ℕ
printed n l k o = line n l k (number_of o.answer) (port_at o.table k).point o.table.shared o.cached o.distributed

-- `BAD` and the number of a malformed line
unfoldable pub bad : ℕ → List ℕ
bad n = (66 ∷ 65 ∷ 68 ∷ space ∷ []) ++ cell n newline

-- room for the longest line
abbrev pub longest : ℕ
longest = 256
