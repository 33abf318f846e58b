-- What a chain of calls prints of an input: `feed` on pieces of any size with rooms of any size, each next piece beginning with what the last call left,
-- and `finish` at the end of the input. A run that is at its end asks for no more of the input.
use Rattle.std.specs.Prelude.{◌≡◌, ℕ, false, List, [], ◌++◌, drop}
use Rattle.listing.specs.declared.Run.{Run}
use Rattle.lines.specs.Reading.{live}
use Rattle.listing.specs.Feed.{feeding, ended}

-- from the run, the input prints the text
pub data Prints : Run → List ℕ → List ℕ → Type 0 where
  -- the input is at its end
  finished : {r : Run} {input text : List ℕ} → input ≡ [] → text ≡ ended r → Prints r input text
  -- the run is at its end
  over : {r : Run} {input text : List ℕ} → live r.stage ≡ false → text ≡ [] → Prints r input text
  -- a call on a piece of the input, and what the calls after it print
  fed : {r : Run} {input text : List ℕ} (room : ℕ) (piece more later : List ℕ)
      → input ≡ piece ++ more → text ≡ (feeding room r piece).1 ++ later
      → Prints (feeding room r piece).0.run (drop (feeding room r piece).0.taken piece ++ more) later → Prints r input text
