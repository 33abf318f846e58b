-- How a run takes its input: byte by byte, a line's bytes kept as a part of a line, in pieces and rooms of any size.
use Rattle.std.specs.Prelude.{ℕ, suc, ◌+◌, ◌-◌, ◌%◌, ◌^◌, cond, ◌&&◌, List, [], ◌∷◌, ◌++◌, length, nat_le}
use Rattle.model.specs.declared.Table.{Table}
use Rattle.model.specs.Event.{fresh}
use Rattle.model.specs.Paid.{paid_event}
use Rattle.lines.specs.declared.Part.{Part}
use Rattle.lines.specs.declared.Part.TheVariants.{Nothing}
use Rattle.lines.specs.declared.Stage.{Stage}
use Rattle.lines.specs.declared.Stage.TheVariants.{Opening, Running, Over}
use Rattle.lines.specs.declared.Act.{Act}
use Rattle.lines.specs.declared.Act.TheVariants.{Keep, Open, Order, Bad}
use Rattle.lines.specs.Reading.{act, live, cut_off}
use Rattle.listing.specs.declared.Run.{Run}
use Rattle.listing.specs.declared.Fed.{Fed}
use Rattle.text.specs.Text.{longest, printed, bad}

-- a run with its table, the number of its line, what has been read of that line, and where it stands
abbrev pub run_at : Table → ℕ → Part → Stage → Run
run_at t n p s = record { table = t; number = n; part = p; stage = s }

-- a run before its first byte
unfoldable pub starting : Run
starting = run_at (fresh 1).table 0 Nothing Opening

-- the run after what it does with a byte, and what that prints; the count of lines has 64 bits. The check of a run's table is paid by its first line, which
-- makes the table
unfoldable pub acted : Run → Act → Run × List ℕ
acted r (Keep p) = (run_at r.table r.number p r.stage, [])
acted r (Open d) = (run_at (fresh d).table 1 Nothing Running, [])
acted r (Order l e k) =
    let o = paid_event r.table k e in
    (run_at o.table ((r.number + 1) % 2 ^ 64) Nothing r.stage, printed r.number l k o)
acted r Bad = (run_at r.table r.number r.part Over, bad r.number)

-- what a piece of input gives (the run after it, how many bytes were taken and written), and what it prints: bytes are taken while there is room for the longest line and the run is not at its end
unfoldable pub feeding : ℕ → Run → List ℕ → Fed × List ℕ
feeding room r [] = (record { run = r; taken = 0; written = 0 }, [])
feeding room r (b ∷ bs) =
    let a = acted r (act r.stage r.part b) in let g = feeding (room - length a.1) a.0 bs in
    cond (nat_le longest room && live r.stage)
    (record { run = g.0.run; taken = suc g.0.taken; written = length a.1 + g.0.written }, a.1 ++ g.1)
    (record { run = r; taken = 0; written = 0 }, [])

-- what the end of the input prints
unfoldable pub ended : Run → List ℕ
ended r = cond (cut_off r.stage r.part) (bad r.number) []
