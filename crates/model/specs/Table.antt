-- The table (document 01, 'The table'): its room, its codes, what stands at a port, its spins, and a fresh one.
use Rattle.std.specs.Prelude.{◌≡◌, Bool, cond, not, ◌&&◌, List, ℕ, eqb, leb, length, get_or, set, replicate}
use Rattle.model.specs.declared.Word.{Word}
use Rattle.model.specs.declared.Work.{Work}
use Rattle.model.specs.declared.Port.{Port}
use Rattle.model.specs.declared.Copies.{Copies}
use Rattle.model.specs.declared.Shared.{Shared}
use Rattle.model.specs.declared.Table.{Table}

-- how many ports a table has room for
unfoldable pub room : ℕ
room = 64

-- D is 1 to the room
unfoldable pub size_good : ℕ → Bool
size_good d = leb 1 d && leb d room

-- the most spins that a port makes
unfoldable pub most : ℕ
most = 65535

-- the codes of STATUS; CS is the critical status
abbrev pub TRY : ℕ
TRY = 0

abbrev pub CS : ℕ
CS = 1

abbrev pub EXIT : ℕ
EXIT = 2

abbrev pub ABORT : ℕ
ABORT = 3

-- a word of three parts
abbrev pub word : ℕ → ℕ → ℕ → Word
word taken owner spin = record { spin = spin; owner = owner; taken = taken }

-- the records from their fields, in the order of document 01's image: own spin, seen owner, seen spin, candidate, candidate spin; point, STATUS, flag,
-- latest value, made, GO, working values; the copies of STATUS, GO, latest spin; ACTIVE, its copies, the word's, D, the word; ports, copies, shared
abbrev pub work : ℕ → ℕ → ℕ → ℕ → ℕ → Work
work own owner spin candidate cspin =
    record { own = own; seenspin = spin; candidatespin = cspin; seenowner = owner; candidate = candidate }

abbrev pub port : ℕ → ℕ → ℕ → ℕ → ℕ → ℕ → Work → Port
port point status flag value made go w =
    record { work = w; made = made; go = go; point = point; status = status; flag = flag; value = value }

abbrev pub copies : ℕ → ℕ → ℕ → Copies
copies status go spin = record { status = status; go = go; spin = spin }

abbrev pub shared : ℕ → ℕ → ℕ → ℕ → Word → Shared
shared active ac wc d w = record { active = active; activecopies = ac; wordcopies = wc; d = d; word = w }

abbrev pub table : List Port → List Copies → Shared → Table
table ps cs s = record { ports = ps; copies = cs; shared = s }

-- all working values 0; a port that is all 0; no copies of a port's words
abbrev pub no_work : Work
no_work = work 0 0 0 0 0

abbrev pub no_port : Port
no_port = port 0 TRY 0 0 0 0 no_work

abbrev pub no_copies : Copies
no_copies = copies 0 0 0

-- what stands at port k, and the copies of its words
abbrev pub port_at : Table → ℕ → Port
port_at t k = get_or t.ports k no_port

abbrev pub copies_at : Table → ℕ → Copies
copies_at t k = get_or t.copies k no_copies

-- the table with another record at port k, or other copies of its words
abbrev pub put_port : Table → ℕ → Port → Table
put_port t k p = table (set t.ports k p) t.copies t.shared

abbrev pub put_copies : Table → ℕ → Copies → Table
put_copies t k c = table t.ports (set t.copies k c) t.shared

-- spin n of a port is its latest: number = made, made not 0
abbrev pub latest : Port → ℕ → Bool
latest p n = eqb n p.made && not (eqb p.made 0)

-- reading spin n of a port: an older spin, or number 0, reads as 0
unfoldable pub read_spin : Port → ℕ → ℕ
read_spin p n = cond (latest p n) p.value 0

-- a table as the code holds it: its two lists are as long as the room
pub record Sized (t : Table) : Type 0 where
  pub ports : length t.ports ≡ room
  pub copies : length t.copies ≡ room

-- the fresh table of d ports: each field's first value
unfoldable pub fresh_table : ℕ → Table
fresh_table d = table (replicate room no_port) (replicate room no_copies) (shared 0 0 0 d (word 0 0 0))
