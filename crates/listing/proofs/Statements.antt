-- What is proved of the listing, for a reader who knows the definitions and no proof. A statement stands under a comment that says in words what it
-- means; the line below it names its proof.
use Rattle.std.specs.Prelude.{◌≡◌, ℕ, ◌+◌, ◌^◌, ◌<◌, ◌≤◌, true, false, List, ◌∷◌, ◌++◌, length}
use Rattle.std.proofs.lemmas.List.Edits.{sets}
use Rattle.model.specs.declared.Table.{Table}
use Rattle.model.specs.Event.{event}
use Rattle.model.proofs.Statements.{one}
use Rattle.listing.specs.declared.Run.{Run}
use Rattle.listing.specs.declared.Fed.{Fed}
use Rattle.lines.specs.Line.{orders, letter, number, event_of}
use Rattle.text.specs.Text.{longest, printed, bad}
use Rattle.listing.specs.Listing.{listed, listing}
use Rattle.lines.specs.Reading.{live}
use Rattle.listing.specs.Feed.{feeding, starting, ended}
use Rattle.listing.specs.Chain.{Prints}
use Rattle.listing.proofs.Laws.Taking.{takes, writes}
use Rattle.listing.proofs.Laws.End.{from_start, by_bytes, listing-printed}

-- Whatever the pieces in which an input arrives, and whatever the rooms that are lent for the text, a run from the start prints the input's listing.
-- (The line number has 64 bits. An input of 2 ^ 64 bytes, for which it could be too small, takes longer than the machine lasts.)
pub in_pieces : (input text : List ℕ) → length input < 2 ^ 64 → Prints starting input text → text ≡ listing input
in_pieces input text h p = from_start p h

-- That can be met: for any input there is a chain of calls that prints some text, and so one that prints the listing
pub some_chain : (input : List ℕ) → (text : List ℕ) × Prints starting input text
some_chain = by_bytes starting

pub prints-listing : (input : List ℕ) → length input < 2 ^ 64 → Prints starting input (listing input)
prints-listing = listing-printed

-- Every call gets on: while a run is not at its end, a piece that is not empty and a room for the longest line see a byte taken
pub gets-on : (room : ℕ) (r : Run) (b : ℕ) (bs : List ℕ) → longest ≤ room → live r.stage ≡ true
    → 1 ≤ (feeding room r (b ∷ bs)).0.taken
gets-on = takes

-- What is counted as written is the length of the text
pub written-whole : (room : ℕ) (r : Run) (piece : List ℕ) → (feeding room r piece).0.written ≡ length (feeding room r piece).1
written-whole = writes

-- 'A malformed line prints BAD and its number, and ends the run': whatever follows it
pub ends_there : (t : Table) (n : ℕ) (l : List ℕ) (ls : List (List ℕ)) → orders l ≡ false → listed t n (l ∷ ls) ≡ bad n
unfolding listed
ends_there t n l ls h = rw h

-- Every other line prints its own line, whatever follows: line n's listing can be checked with the table so far and the line alone
pub line-by-line : (t : Table) (n : ℕ) (l : List ℕ) (ls : List (List ℕ)) → orders l ≡ true
    → listed t n (l ∷ ls)
    ≡ printed n (letter l) (number l) (event t (number l) (event_of (letter l)))
    ++ listed (event t (number l) (event_of (letter l))).table (n + 1) ls
unfolding listed
line-by-line t n l ls h = rw h

-- Two results that meet a promise are equal, and so are two contents of the buffer
pub feed-one : (r : Run) (input out : List ℕ) (f g : Fed) (x y : List ℕ)
    → f ≡ (feeding (length out) r input).0
    → x ≡ sets out 0 (feeding (length out) r input).1
    → g ≡ (feeding (length out) r input).0
    → y ≡ sets out 0 (feeding (length out) r input).1
    → (f ≡ g) × (x ≡ y)
feed-one r input out f g x y p q u v = (one p u, one q v)

pub finish-one : (r : Run) (out : List ℕ) (m n : ℕ) (x y : List ℕ)
    → m ≡ length (ended r)
    → x ≡ sets out 0 (ended r)
    → n ≡ length (ended r)
    → y ≡ sets out 0 (ended r)
    → (m ≡ n) × (x ≡ y)
finish-one r out m n x y p q u v = (one p u, one q v)

pub start-one : (r s : Run) → r ≡ starting → s ≡ starting → r ≡ s
start-one r s = one
