-- Remote references (document 01, 'Remote references'): what touching a word costs in both models, and which ports then have a copy of it.
use Rattle.std.specs.Prelude.{Bool, cond, ℕ, eqb}
use Rattle.model.specs.declared.Table.{Table}
use Rattle.model.specs.declared.Outcome.{Outcome}
use Rattle.model.specs.declared.Answer.{Answer}
use Rattle.model.specs.declared.Answer.TheVariants.{Done}
use Rattle.model.specs.Table.{copies, shared, table, copies_at, put_copies}
use Rattle.model.specs.Mask.{stands, joined, alone}

-- what an event answers: the table after it, its cached and distributed cost, DONE or a refusal; an answer with costs 0
abbrev pub outcome : Table → ℕ → ℕ → Answer → Outcome
outcome t m n a = record { table = t; cached = m; distributed = n; answer = a }

abbrev pub free : Answer → Table → Outcome
free a t = outcome t 0 0 a

-- cached model, a kind of access: what port k pays for touching a word of which the ports of m have a copy, and the ports with a copy after it. A read costs 1 if the port
-- has no copy, and it then has one; a write, an addition and a compare and swap, failed or not, cost 1 and leave the port as sole holder
abbrev pub Access : Type 0
Access = ℕ → ℕ → ℕ × ℕ

abbrev pub read : Access
read k m = (cond (stands m k) 0 1, joined m k)

abbrev pub write : Access
write k m = (1, alone k)

abbrev pub add : Access
add = write

abbrev pub swap : Access
swap = write

-- distributed model: a word of port j is local to j and costs it 0; any other port pays 1
abbrev pub remote : ℕ → ℕ → ℕ
remote j k = cond (eqb j k) 0 1

-- a touch: how, which port's word (j), which port pays (k), and the table with what the touch has written (t). First STATUS of port j
abbrev pub touch_status : Access → ℕ → ℕ → Table → Outcome
touch_status a j k t =
    let c = copies_at t j in
    outcome (put_copies t j (copies (a k c.status).1 c.go c.spin)) (a k c.status).0 (remote j k) Done

-- GO of port j
abbrev pub touch_go : Access → ℕ → ℕ → Table → Outcome
touch_go a j k t =
    let c = copies_at t j in
    outcome (put_copies t j (copies c.status (a k c.go).1 c.spin)) (a k c.go).0 (remote j k) Done

-- a spin of port j: one that isn't the latest costs 1 and changes no copy set
abbrev pub touch_spin : Access → Bool → ℕ → ℕ → Table → Outcome
touch_spin a newest j k t =
    let c = copies_at t j in
    cond newest (outcome (put_copies t j (copies c.status c.go (a k c.spin).1)) (a k c.spin).0 (remote j k) Done)
    (outcome t 1 (remote j k) Done)

-- ACTIVE and the word are remote to all
abbrev pub touch_active : Access → ℕ → Table → Outcome
touch_active a k t =
    let s = t.shared in let r = a k s.activecopies in
    outcome (table t.ports t.copies (shared s.active r.1 s.wordcopies s.d s.word)) r.0 1 Done

abbrev pub touch_word : Access → ℕ → Table → Outcome
touch_word a k t =
    let s = t.shared in let r = a k s.wordcopies in
    outcome (table t.ports t.copies (shared s.active s.activecopies r.1 s.d s.word)) r.0 1 Done
