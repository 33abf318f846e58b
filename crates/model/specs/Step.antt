-- The steps (document 01, 'The steps'): a clause for each point, in the document's order, with the word that it touches and how, and the next point as its
-- number.
use Rattle.std.specs.Prelude.{Bool, cond, ◌&&◌, ℕ, ◌+◌, ◌-◌, ◌^◌, eqb, ltb}
use Rattle.model.specs.declared.Word.{Word}
use Rattle.model.specs.declared.Work.{Work}
use Rattle.model.specs.declared.Port.{Port}
use Rattle.model.specs.declared.Table.{Table}
use Rattle.model.specs.declared.Outcome.{Outcome}
use Rattle.model.specs.declared.Answer.TheVariants.{Done}
use Rattle.model.specs.Table.{TRY, CS, EXIT, ABORT, word, work, port, copies, shared, table, port_at, copies_at, put_port, put_copies, latest, read_spin}
use Rattle.model.specs.Mask.{stands, added}
use Rattle.model.specs.Ring.{next}
use Rattle.model.specs.Points.{Tens, two, three, four, Point, none, p0, p1, p2, p3, p4, p5, p6, p8, p9, p10, p11, p12, p13, p14, p15, p16, p17, p18, p19, x0, x1, x2, x3, x4, x5, tens, back, settled}
use Rattle.model.specs.Cost.{free, read, write, add, swap, touch_status, touch_go, touch_spin, touch_active, touch_word}

-- a port with one field changed
abbrev pub at : ℕ → Port → Port
at n p = port n p.status p.flag p.value p.made p.go p.work

abbrev pub with_status : ℕ → Port → Port
with_status n p = port p.point n p.flag p.value p.made p.go p.work

abbrev pub with_flag : ℕ → Port → Port
with_flag n p = port p.point p.status n p.value p.made p.go p.work

abbrev pub with_value : ℕ → Port → Port
with_value n p = port p.point p.status p.flag n p.made p.go p.work

abbrev pub with_go : ℕ → Port → Port
with_go n p = port p.point p.status p.flag p.value p.made n p.work

abbrev pub with_work : Work → Port → Port
with_work w p = port p.point p.status p.flag p.value p.made p.go w

-- one working value changed; the word as seen
abbrev pub with_own : ℕ → Port → Port
with_own n p = with_work (work n p.work.seenowner p.work.seenspin p.work.candidate p.work.candidatespin) p

abbrev pub with_seen : Word → Port → Port
with_seen w p = with_work (work p.work.own w.owner w.spin p.work.candidate p.work.candidatespin) p

abbrev pub with_candidate : ℕ → Port → Port
with_candidate n p = with_work (work p.work.own p.work.seenowner p.work.seenspin n p.work.candidatespin) p

abbrev pub with_candidate_spin : ℕ → Port → Port
with_candidate_spin n p = with_work (work p.work.own p.work.seenowner p.work.seenspin p.work.candidate n) p

-- two words are the same; compare and swap: the word becomes `new` where it is `old`
unfoldable pub same : Word → Word → Bool
same w u = eqb w.taken u.taken && eqb w.owner u.owner && eqb w.spin u.spin

unfoldable pub swapped : Word → Word → Word → Word
swapped w old new = cond (same w old) new w

-- the table with another ACTIVE; with another word
abbrev pub put_active : Table → ℕ → Table
put_active t a = table t.ports t.copies (shared a t.shared.activecopies t.shared.wordcopies t.shared.d t.shared.word)

abbrev pub put_word : Table → Word → Table
put_word t w = table t.ports t.copies (shared t.shared.active t.shared.activecopies t.shared.wordcopies t.shared.d w)

-- the table with p for port k's record, where every working value that has no place at the next point is set to 0
abbrev pub moved : Table → ℕ → Port → Table
moved t k p = put_port t k (settled p)

-- 4: made grows by 1, that number goes to GO and own spin, its value is 0 (with no copies)
abbrev pub new_spin : Port → Port
new_spin p = with_own (p.made + 1) (port p.point p.status p.flag 0 (p.made + 1) (p.made + 1) p.work)

-- x1 where ACTIVE is 0: at 31 the port itself is candidate, 32; at 21 and 41, x4
unfoldable pub unasked : Tens → ℕ → Port → Port
unasked two k p = at 24 p
unasked three k p = at 32 (with_candidate k p)
unasked four k p = at 44 p

-- the step of port k, whose record is p: how it touches which word, and the table after it. At 0, at 11 and at a number that is no point there is nothing to do. A write to a spin that isn't the latest
-- changes nothing
unfoldable pub step : Point → Table → ℕ → Port → Outcome
unfolding unasked
step none t k p = free Done (moved t k p)
step p0 t k p = free Done (moved t k p)
step p1 t k p = touch_status read k k (moved t k (at (cond (eqb p.status CS) 11 (cond (eqb p.status EXIT) 13 2)) p))
step p2 t k p = free Done (moved t k (at (cond (eqb p.flag 1) 12 3) p))
step p3 t k p = touch_go read k k (moved t k (at (cond (eqb p.go 0) 4 5) (with_own p.go p)))
step p4 t k p =
    let c = copies_at t k in touch_go write k k (moved (put_copies t k (copies c.status c.go 0)) k (at 5 (new_spin p)))
step p5 t k p = touch_active read k (moved t k (at (cond (stands t.shared.active k) 20 6) p))
step p6 t k p = touch_active add k (moved (put_active t (added t.shared.active (2 ^ k))) k (at 20 p))
step p8 t k p = touch_spin read (latest p p.work.own) k k (moved t k (at (cond (eqb (read_spin p p.work.own) 1) 10 9) p))
step p9 t k p = free Done (moved t k (at (cond (eqb p.flag 1) 12 8) p))
step p10 t k p = touch_status write k k (moved t k (at 11 (with_status CS p)))
step p11 t k p = free Done (moved t k p)
step p12 t k p = touch_status write k k (moved t k (at 14 (with_status ABORT p)))
step p13 t k p = touch_status write k k (moved t k (at 14 (with_status EXIT p)))
step p14 t k p = touch_active read k (moved t k (at (cond (stands t.shared.active k) 15 16) p))
step p15 t k p = touch_active add k (moved (put_active t (added t.shared.active (2 ^ 64 - 2 ^ k))) k (at 16 p))
step p16 t k p = touch_go read k k (moved t k (at 30 (with_own p.go p)))
step p17 t k p =
    touch_word swap k
    (moved (put_word t (swapped t.shared.word (word 1 k p.work.own) (word 0 k p.work.own))) k (at 40 p))
step p18 t k p = touch_go write k k (moved t k (at 19 (with_go 0 p)))
step p19 t k p = touch_status write k k (moved t k (at 0 (with_status TRY (with_flag 0 p))))
step (x0 x) t k p = touch_word read k (moved t k (at (tens x + cond (eqb t.shared.word.taken 1) 4 1) (with_seen t.shared.word p)))
step (x1 x) t k p =
    touch_active read k
    (moved t k (cond (eqb t.shared.active 0) (unasked x k p)
    (at (tens x + 2) (with_candidate (next t.shared.d p.work.seenowner t.shared.active) p))))
step (x2 x) t k p = touch_go read p.work.candidate k (moved t k (at (tens x + 3) (with_candidate_spin (port_at t p.work.candidate).go p)))
step (x3 x) t k p =
    touch_word swap k
    (moved (put_word t (swapped t.shared.word (word 0 p.work.seenowner p.work.seenspin)
    (word 1 p.work.candidate p.work.candidatespin))) k (at (tens x + 4) p))
step (x4 x) t k p =
    touch_word read k
    (moved t k (cond (eqb t.shared.word.taken 1 && ltb 0 t.shared.word.spin) (at (tens x + 5) (with_seen t.shared.word p)) (at (back x) p)))
step (x5 x) t k p =
    let j = p.work.seenowner in let newest = latest (port_at t j) p.work.seenspin in let u = moved t k (at (back x) p) in
    touch_spin write newest j k (cond newest (put_port u j (with_value 1 (port_at u j))) u)
