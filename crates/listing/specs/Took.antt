-- The run that has taken every byte of a piece of input, in however many calls and whatever the rooms: what a program's loop promises.
use Rattle.std.specs.Prelude.{ℕ, cond, List, [], ◌∷◌}
use Rattle.lines.specs.Reading.{act, live}
use Rattle.listing.specs.declared.Run.{Run}
use Rattle.listing.specs.Feed.{acted}

-- a run at its end takes no more
unfoldable pub took : Run → List ℕ → Run
took r [] = r
took r (b ∷ bs) = cond (live r.stage) (took (acted r (act r.stage r.part b)).0 bs) r
