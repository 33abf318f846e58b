-- A line of a schedule (document 01, 'Sample lines'): a letter, a single space, a number of one to three digits without leading zeros, and a newline.
use Rattle.std.specs.Prelude.{Bool, true, cond, not, ◌&&◌, ◌||◌, ℕ, ◌+◌, ◌-◌, ◌*◌, eqb, ltb, leb, length, get_or, drop}
use mathlib.Core.List.{List, [], ◌∷◌, foldl, foldr, drop_last, get_last_d}
use Rattle.model.specs.Event.{enter, stepping, crash, call_off, leave}
use Rattle.model.specs.Table.{size_good}

-- bytes
abbrev pub newline : ℕ
newline = 10

abbrev pub space : ℕ
space = 32

abbrev pub nought : ℕ
nought = 48

-- a byte that is a digit
abbrev pub digit : ℕ → Bool
digit b = leb nought b && leb b 57

-- the number that digits stand for
abbrev pub value_of : List ℕ → ℕ
value_of ds = foldl (λ n d. 10 * n + (d - nought)) 0 ds

-- a line's letter; its digits, which stand between its first two bytes and its last; its number
unfoldable pub letter : List ℕ → ℕ
letter line = get_or line 0 0

unfoldable pub digits : List ℕ → List ℕ
digits line = drop_last (drop 2 line)

unfoldable pub number : List ℕ → ℕ
number line = value_of (digits line)

-- a line that is well formed: its second byte a space and its last a newline; between them one digit, or at most three of which the first is above 0
unfoldable pub well_formed : List ℕ → Bool
well_formed line =
    eqb (get_or line 1 0) space && eqb (get_last_d line 0) newline && foldr (λ b rest. digit b && rest) true (digits line)
    && (eqb (length (digits line)) 1 || (leb (length (digits line)) 3 && ltb nought (get_or (digits line) 0 0)))

-- the event that a letter, E, S, X, A or L, stands for; 0 for any other
unfoldable pub event_of : ℕ → ℕ
event_of l =
    cond (eqb l 69) enter (cond (eqb l 83) stepping (cond (eqb l 88) crash (cond (eqb l 65) call_off (cond (eqb l 76) leave 0))))

-- the first line: the letter D and a number of ports, 1 to the room; the line of an event
unfoldable pub opens : List ℕ → Bool
opens line = well_formed line && eqb (letter line) 68 && size_good (number line)

unfoldable pub orders : List ℕ → Bool
orders line = well_formed line && not (eqb (event_of (letter line)) 0)

-- the lines of an input, each with its newline; a last one may lack it
unfoldable pub lines : List ℕ → List (List ℕ)
lines [] = []
lines (b ∷ bs) = let ls = lines bs in cond (eqb b newline) ((b ∷ []) ∷ ls) ((b ∷ get_or ls 0 []) ∷ drop 1 ls)
