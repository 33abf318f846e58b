-- The parts of a listing as the functions of this crate put them: who reads listings needs none of it.
use Rattle.std.specs.Prelude.{cond, List, [], ℕ, ◌+◌, leb}
use Rattle.model.specs.declared.Shared.{Shared}
use Rattle.text.specs.declared.Row.{Row}
use Rattle.text.specs.Text.{line, longest}

-- a row from its fields, in the order of the line
abbrev pub row : ℕ → ℕ → ℕ → ℕ → ℕ → Shared → ℕ → ℕ → Row
row n l k a p s c d = record { number = n; letter = l; port = k; answer = a; point = p; shared = s; cached = c; distributed = d }

-- the line of a row
abbrev pub row_text : Row → List ℕ
row_text r = line r.number r.letter r.port r.answer r.point r.shared r.cached r.distributed

-- a line is put where the room has place for the longest from there on, and else nothing is
abbrev pub fitting : ℕ → ℕ → List ℕ → List ℕ
fitting room at text = cond (leb (at + longest) room) text []
