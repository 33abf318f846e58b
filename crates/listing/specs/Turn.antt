-- A turn of a run: what it does with a byte, and the row that a line prints of an order.
use Rattle.std.specs.Prelude.{ℕ, List, Result, Ok, Err}
use Rattle.model.specs.declared.Answer.{Answer}
use Rattle.model.specs.declared.Shared.{Shared}
use Rattle.model.specs.Event.{number_of}
use Rattle.answers.specs.declared.Costs.{Costs}
use Rattle.lines.specs.Reading.{act}
use Rattle.text.specs.declared.Row.{Row}
use Rattle.text.specs.Parts.{row}
use Rattle.listing.specs.declared.Run.{Run}
use Rattle.listing.specs.Feed.{acted}

-- the run after a byte, and what that prints
abbrev pub after : Run → ℕ → Run × List ℕ
after r b = acted r (act r.stage r.part b)

-- the line's number, the letter and the port, what the order comes to, the port's point and what all share: a refused order costs nothing
abbrev pub row_of : ℕ → ℕ → ℕ → Result Costs Answer → ℕ → Shared → Row
row_of n l k (Ok c) p s = row n l k 0 p s c.cached c.distributed
row_of n l k (Err a) p s = row n l k (number_of a) p s 0 0
