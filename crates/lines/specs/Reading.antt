-- A line read byte by byte: what a run does with a byte, by where it stands and what it has read of a line.
use Rattle.std.specs.Prelude.{Bool, true, false, cond, ◌&&◌, ℕ, ◌+◌, ◌-◌, ◌*◌, eqb, ltb}
use Rattle.model.specs.Table.{size_good}
use Rattle.lines.specs.declared.Part.{Part}
use Rattle.lines.specs.declared.Part.TheVariants.{Nothing, Letter, Space, Number}
use Rattle.lines.specs.declared.Stage.{Stage}
use Rattle.lines.specs.declared.Stage.TheVariants.{Opening, Running, Over}
use Rattle.lines.specs.declared.Act.{Act}
use Rattle.lines.specs.declared.Act.TheVariants.{Keep, Open, Order, Bad}
use Rattle.lines.specs.Line.{newline, space, nought, digit, event_of}

-- what a run does at the end of a line of a letter and a number
abbrev pub line_act : Stage → ℕ → ℕ → Act
line_act Opening l n = cond (eqb l 68 && size_good n) (Open n) Bad
line_act Running l n = cond (eqb (event_of l) 0) Bad (Order l (event_of l) n)
line_act Over l n = Bad

-- what it does with a byte: a number goes on where it is neither 0 nor of three digits
abbrev pub act : Stage → Part → ℕ → Act
act s Nothing b = cond (eqb b newline) Bad (Keep (Letter b))
act s (Letter l) b = cond (eqb b space) (Keep (Space l)) Bad
act s (Space l) b = cond (digit b) (Keep (Number l (b - nought))) Bad
act s (Number l n) b =
    cond (eqb b newline) (line_act s l n) (cond (digit b && ltb 0 n && ltb n 100) (Keep (Number l (10 * n + (b - nought)))) Bad)

-- a run that is not at its end
abbrev pub live : Stage → Bool
live Opening = true
live Running = true
live Over = false

-- the end of the input is malformed: there is no first line, or a line has begun
abbrev pub cut_off : Stage → Part → Bool
cut_off Opening p = true
cut_off Running Nothing = false
cut_off Running (Letter l) = true
cut_off Running (Space l) = true
cut_off Running (Number l n) = true
cut_off Over p = false
