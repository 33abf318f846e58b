-- The listing of a whole input (document 01, 'Sample lines').
use Rattle.std.specs.Prelude.{ℕ, ◌+◌, cond, List, [], ◌∷◌, ◌++◌}
use Rattle.model.specs.declared.Table.{Table}
use Rattle.model.specs.Table.{fresh_table}
use Rattle.model.specs.Event.{event}
use Rattle.lines.specs.Line.{letter, number, event_of, opens, orders, lines}
use Rattle.text.specs.Text.{printed, bad}

-- what the lines from line n on print, the table so far being t: a line for each event; a malformed line prints BAD and its number and ends the run
unfoldable pub listed : Table → ℕ → List (List ℕ) → List ℕ
listed t n [] = []
listed t n (l ∷ ls) =
    let o = event t (number l) (event_of (letter l)) in
    cond (orders l) (printed n (letter l) (number l) o ++ listed o.table (n + 1) ls) (bad n)

-- the first line, line 0, makes the table; without it the run has no table to go on with
unfoldable pub opened : List (List ℕ) → List ℕ
opened [] = bad 0
opened (l ∷ ls) = cond (opens l) (listed (fresh_table (number l)) 1 ls) (bad 0)

-- the listing of a whole input
unfoldable pub listing : List ℕ → List ℕ
listing input = opened (lines input)
