-- The cost of a step as the code works it out: for every point which word it touches and how, and what that costs in both models.
use Rattle.std.specs.Prelude.{Bool, false, cond, not, ℕ}
use Rattle.model.specs.declared.Work.{Work}
use Rattle.model.specs.declared.Port.{Port}
use Rattle.model.specs.declared.Copies.{Copies}
use Rattle.model.specs.declared.Shared.{Shared}
use Rattle.model.specs.declared.Touch.{Touch}
use Rattle.model.specs.declared.Fee.{Fee}
use Rattle.model.specs.declared.Charge.{Charge}
use Rattle.model.specs.declared.Cell.{Cell}
use Rattle.model.specs.declared.Cell.TheVariants.{Nothing, Status, Go, Spin, Active, Lock, CandidateGo, SeenSpin}
use Rattle.model.specs.declared.Kind.{Kind}
use Rattle.model.specs.declared.Kind.TheVariants.{Read, Write, Add, Swap}
use Rattle.model.specs.declared.Kind.TheVariants as Kinds
use Rattle.model.specs.Table.{copies, shared, latest}
use Rattle.model.specs.Mask.{stands, joined, alone}
use Rattle.model.specs.Points.{Point, none, p0, p1, p2, p3, p4, p5, p6, p8, p9, p10, p11, p12, p13, p14, p15, p16, p17, p18, p19, x0, x1, x2, x3, x4, x5}
use Rattle.model.specs.Cost.{remote}

abbrev pub touch : Kind → Cell → Touch
touch a c = record { cell = c; kind = a }

abbrev pub untouched : Touch
untouched = touch Kinds.Nothing Nothing

-- for every point which word it touches and how
unfoldable pub touch_at : Point → Touch
touch_at none = untouched
touch_at p0 = untouched
touch_at p1 = touch Read Status
touch_at p2 = untouched
touch_at p3 = touch Read Go
touch_at p4 = touch Write Go
touch_at p5 = touch Read Active
touch_at p6 = touch Add Active
touch_at p8 = touch Read Spin
touch_at p9 = untouched
touch_at p10 = touch Write Status
touch_at p11 = untouched
touch_at p12 = touch Write Status
touch_at p13 = touch Write Status
touch_at p14 = touch Read Active
touch_at p15 = touch Add Active
touch_at p16 = touch Read Go
touch_at p17 = touch Swap Lock
touch_at p18 = touch Write Go
touch_at p19 = touch Write Status
touch_at (x0 x) = touch Read Lock
touch_at (x1 x) = touch Read Active
touch_at (x2 x) = touch Read CandidateGo
touch_at (x3 x) = touch Swap Lock
touch_at (x4 x) = touch Read Lock
touch_at (x5 x) = touch Write SeenSpin

-- the port that a word belongs to, as port k with these working values touches it; ACTIVE and the lock word count with k
abbrev pub home : Cell → ℕ → Work → ℕ
home Nothing k w = k
home Status k w = k
home Go k w = k
home Spin k w = k
home Active k w = k
home Lock k w = k
home CandidateGo k w = w.candidate
home SeenSpin k w = w.seenowner

-- cached model: a read costs 1 if the port has no copy; a write, an addition and a compare and swap, failed or not, cost 1
abbrev pub cached : Kind → ℕ → ℕ → ℕ
cached Kinds.Nothing k m = 0
cached Read k m = cond (stands m k) 0 1
cached Write k m = 1
cached Add k m = 1
cached Swap k m = 1

-- a reader then has a copy; any other leaves port k as sole holder
abbrev pub copied : Kind → ℕ → ℕ → ℕ
copied Kinds.Nothing k m = m
copied Read k m = joined m k
copied Write k m = alone k
copied Add k m = alone k
copied Swap k m = alone k

-- a charge: what all share and the copy sets of the word's port after the touch, and what it costs in the cached and in the distributed model
abbrev pub charged : Shared → Copies → ℕ → ℕ → Charge
charged s c m n = record { shared = s; copies = c; cached = m; distributed = n }

-- the word is a spin that isn't the latest of its port, q
abbrev pub old : Cell → Work → Port → Bool
old Nothing w q = false
old Status w q = false
old Go w q = false
old Spin w q = not (latest q w.own)
old Active w q = false
old Lock w q = false
old CandidateGo w q = false
old SeenSpin w q = not (latest q w.seenspin)

-- the ports with a current copy of the word
abbrev pub holders : Cell → Shared → Copies → ℕ
holders Nothing s c = 0
holders Status s c = c.status
holders Go s c = c.go
holders Spin s c = c.spin
holders Active s c = s.activecopies
holders Lock s c = s.wordcopies
holders CandidateGo s c = c.go
holders SeenSpin s c = c.spin

-- the copy sets with m for the word's
abbrev pub put_shared : Cell → ℕ → Shared → Shared
put_shared Nothing m s = s
put_shared Status m s = s
put_shared Go m s = s
put_shared Spin m s = s
put_shared Active m s = shared s.active m s.wordcopies s.d s.word
put_shared Lock m s = shared s.active s.activecopies m s.d s.word
put_shared CandidateGo m s = s
put_shared SeenSpin m s = s

abbrev pub put_copies : Cell → ℕ → Copies → Copies
put_copies Nothing m c = c
put_copies Status m c = copies m c.go c.spin
put_copies Go m c = copies c.status m c.spin
put_copies Spin m c = copies c.status c.go m
put_copies Active m c = c
put_copies Lock m c = c
put_copies CandidateGo m c = copies c.status m c.spin
put_copies SeenSpin m c = copies c.status c.go m

-- the distributed cost of a touch by port k
abbrev pub distributed : Cell → ℕ → Work → ℕ
distributed Nothing k w = 0
distributed Status k w = 0
distributed Go k w = 0
distributed Spin k w = 0
distributed Active k w = 1
distributed Lock k w = 1
distributed CandidateGo k w = remote w.candidate k
distributed SeenSpin k w = remote w.seenowner k

-- a touch by port k, whose working values are w, of a word that belongs to port q, where m is the set of ports with a copy of it
abbrev pub fee : ℕ → ℕ → ℕ → Fee
fee m cached apart = record { set = m; cached = cached; distributed = apart }

unfoldable pub fee_of : Touch → ℕ → Work → Port → ℕ → Fee
fee_of u k w q m =
    cond (old u.cell w q) (fee m 1 (distributed u.cell k w)) (fee (copied u.kind k m) (cached u.kind k m) (distributed u.cell k w))

-- a touch by port k, whose working values are w; q is the port that the word belongs to, and c its copy sets
unfoldable pub charge : Touch → ℕ → Work → Port → Shared → Copies → Charge
charge u k w q s c =
    let m = holders u.cell s c in let n = copied u.kind k m in
    cond (old u.cell w q) (charged s c 1 (distributed u.cell k w))
    (charged (put_shared u.cell n s) (put_copies u.cell n c) (cached u.kind k m) (distributed u.cell k w))
