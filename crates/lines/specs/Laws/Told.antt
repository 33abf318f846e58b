-- What a part of a line stands for, and what is known where a run does something with a byte: more bytes of the line, a line that opens a table or orders an
-- event, or one that does neither, whatever follows.
use Rattle.std.specs.Prelude.{◌≡◌, Bool, true, false, cond, List, [], ◌∷◌, ◌++◌, ℕ, ◌+◌, ◌/◌, ◌%◌, ◌<◌, eqb, ltb}
use Rattle.lines.specs.declared.Part.{Part}
use Rattle.lines.specs.declared.Part.TheVariants.{Nothing, Letter, Space, Number}
use Rattle.lines.specs.declared.Stage.{Stage}
use Rattle.lines.specs.declared.Stage.TheVariants.{Opening, Running, Over}
use Rattle.lines.specs.declared.Act.{Act}
use Rattle.lines.specs.declared.Act.TheVariants.{Keep, Open, Order, Bad}
use Rattle.lines.specs.Line.{newline, space, nought, letter, number, event_of, opens, orders}

-- the digits of a number below 1,000
unfoldable pub shown : ℕ → List ℕ
shown n =
    cond (ltb n 10) ((nought + n) ∷ [])
    (cond (ltb n 100) ((nought + n / 10) ∷ (nought + n % 10) ∷ [])
    ((nought + n / 100) ∷ (nought + n / 10 % 10) ∷ (nought + n % 10) ∷ []))

-- the bytes of a part of a line
abbrev pub bytes_of : Part → List ℕ
bytes_of Nothing = []
bytes_of (Letter l) = l ∷ []
bytes_of (Space l) = l ∷ space ∷ []
bytes_of (Number l n) = l ∷ space ∷ shown n

-- a part that reading can give: its letter is no newline, and its number has at most three digits
abbrev pub Fair : Part → Type 0
Fair Nothing = Unit {0}
Fair (Letter l) = eqb l newline ≡ false
Fair (Space l) = eqb l newline ≡ false
Fair (Number l n) = (eqb l newline ≡ false) × (n < 1000)

-- a line that a run goes on with
abbrev pub fits : Stage → List ℕ → Bool
fits Opening line = opens line
fits Running line = orders line
fits Over line = false

-- the line that a newline makes of a part
abbrev pub whole : Part → List ℕ
whole p = bytes_of p ++ newline ∷ []

-- what is known of a part of a line and a byte where a run does this with them
abbrev pub Told : Stage → Part → ℕ → Act → Type 0
Told s p b (Keep q) = (bytes_of q ≡ bytes_of p ++ b ∷ []) × Fair q
Told Opening p b (Open d) = (b ≡ newline) × (opens (whole p) ≡ true) × (number (whole p) ≡ d)
Told Running p b (Open d) = ⊥
Told Over p b (Open d) = ⊥
Told Opening p b (Order l e k) = ⊥
Told Running p b (Order l e k) =
    (b ≡ newline) × (orders (whole p) ≡ true) × (letter (whole p) ≡ l) × (event_of l ≡ e) × (number (whole p) ≡ k)
Told Over p b (Order l e k) = ⊥
Told s p b Bad = (ys : List ℕ) → (b ≡ newline → ys ≡ []) → fits s (bytes_of p ++ b ∷ ys) ≡ false
