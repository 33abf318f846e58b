-- What is proved of images. `read` promises `decode` of its result, `checking::check` D of the table that is read or the reader's refusal; `write` promises
-- `written` of its result and `room_after` of the room, by `write_answer`, and `blank` the same for a fresh table: so their contracts say.
use Rattle.std.specs.Prelude.{◌≡◌, true, List, Result, Ok, Err, ℕ, ◌+◌, ◌*◌, ◌≤◌, ◌<◌, length, get_or, take, drop}
use Rattle.std.specs.Result.{result_unwrap_or}
use Rattle.std.proofs.Common.{ap, ◌∙◌, arith}
use Rattle.model.specs.declared.Fault.{Fault}
use Rattle.model.specs.declared.Table.{Table}
use Rattle.model.specs.declared.Made.{Made}
use Rattle.model.specs.declared.Answer.{Answer}
use Rattle.model.specs.declared.Answer.TheVariants.{Done}
use Rattle.model.specs.Table.{room, Sized, fresh_table}
use Rattle.model.specs.Good.{good}
use Rattle.model.specs.Event.{number_of, fault_in}
use Rattle.model.proofs.Statements.{one}
use Rattle.model.specs.Bytes.{Bytes}
use Rattle.image.specs.Image.{encode, refused, decode, write_answer, written, room_after, checked}
use Rattle.image.proofs.Laws.Held.{d-held}
use Rattle.image.proofs.Laws.Reading.{read-accepted, read-refused}
use Rattle.image.proofs.Laws.Encoded.{length-encode, size-narrow, size-wide, encode-bytes}
use Rattle.image.proofs.Laws.RoundTrip.{decode-encode}
use Rattle.image.proofs.Laws.Promises.{write_done, accepted-good, accepted-sized, accepted-encoded}

-- 1. A good table of any D, written and read, is the same table: of the definitions, and of the functions by their promises
pub table_kept : (t : Table) → Sized t → good t ≡ true → decode (encode t) ≡ record { table = t; answer = Done }
table_kept t s g = decode-encode t s g

pub written_read : (t : Table) (out next : List ℕ) (w : Result ℕ Answer) (m : Made) → Sized t → good t ≡ true → length (encode t) ≤ length out
    → w ≡ written (write_answer t (length out)) t → next ≡ room_after (write_answer t (length out)) t out → m ≡ decode (take (result_unwrap_or w 0) next)
    → m ≡ record { table = t; answer = Done }
written_read t out next w m s g h p q e = e ∙ ap decode (write_done t out next w s g h p q).1 ∙ decode-encode t s g

-- 2. An accepted image, read and written, is the same bytes: of the definitions, and of the functions by their promises
pub image-kept : (bs : List ℕ) → Bytes bs → (decode bs).answer ≡ Done → encode (decode bs).table ≡ bs
image-kept bs f h = accepted-encoded bs h f

pub read-written : (bs out next : List ℕ) (m : Made) (w : Result ℕ Answer) → Bytes bs → length bs ≤ length out → m ≡ decode bs → m.answer ≡ Done
    → w ≡ written (write_answer m.table (length out)) m.table → next ≡ room_after (write_answer m.table (length out)) m.table out
    → (w ≡ Ok (length bs)) × (take (length bs) next ≡ bs)
read-written bs out next m w f h e a p q =
    let d : (decode bs).answer ≡ Done = rw e at a in
    let b = accepted-encoded bs d f in
    let r = write_done (decode bs).table out next w (accepted-sized bs d) (accepted-good bs d) (rw b h) (rw e at p) (rw e at q) in
    let z : w ≡ Ok (length bs) = r.0 ∙ rw b in
    (z, (rw z at r.1) ∙ b)

-- 3. Two results that meet a promise are equal, and so are two contents of the room
pub read_one : (bs : List ℕ) (r s : Made) → r ≡ decode bs → s ≡ decode bs → r ≡ s
read_one bs r s = one

pub answer-one : (bs : List ℕ) (r s : ℕ) → r ≡ number_of (decode bs).answer → s ≡ number_of (decode bs).answer → r ≡ s
answer-one bs r s = one

pub check-one : (bs : List ℕ) (r s : Result ℕ Answer) → r ≡ checked bs → s ≡ checked bs → r ≡ s
check-one bs r s = one

pub bad-one : (bs : List ℕ) (r s : Fault) → r ≡ fault_in (decode bs).answer → s ≡ fault_in (decode bs).answer → r ≡ s
bad-one bs r s = one

pub write-one : (t : Table) (out : List ℕ) (v w : Result ℕ Answer) (a b : List ℕ)
    → v ≡ written (write_answer t (length out)) t → a ≡ room_after (write_answer t (length out)) t out
    → w ≡ written (write_answer t (length out)) t → b ≡ room_after (write_answer t (length out)) t out → (v ≡ w) × (a ≡ b)
write-one t out v w a b p q r s = (one p r, one q s)

pub blank-one : (d : ℕ) (out : List ℕ) (v w : Result ℕ Answer) (a b : List ℕ)
    → v ≡ written (write_answer (fresh_table d) (length out)) (fresh_table d) → a ≡ room_after (write_answer (fresh_table d) (length out)) (fresh_table d) out
    → w ≡ written (write_answer (fresh_table d) (length out)) (fresh_table d) → b ≡ room_after (write_answer (fresh_table d) (length out)) (fresh_table d) out
    → (v ≡ w) × (a ≡ b)
blank-one d out v w a b p q r s = (one p r, one q s)

-- 4. The length of an image is 30 + 22 D to D = 16, and 42 + 40 D above: 52 at D = 1, 382 at 16, 722 at 17 and 2602 at 64. Each of its bytes is below 256
pub image-length : (t : Table) → Sized t → t.shared.d ≤ 16 → length (encode t) ≡ 30 + 22 * t.shared.d
unfolding room
image-length t s h = length-encode t s (omega (arith, h)) ∙ size-narrow t.shared.d h

pub wide-image-length : (t : Table) → Sized t → 16 < t.shared.d → t.shared.d ≤ room
    → length (encode t) ≡ 42 + 40 * t.shared.d
wide-image-length t s a b = length-encode t s b ∙ size-wide t.shared.d a

pub shortest-image : (t : Table) → Sized t → t.shared.d ≡ 1 → length (encode t) ≡ 52
shortest-image t s e = omega (arith, image-length t s (omega (arith, e)), e)

pub longest-narrow-image : (t : Table) → Sized t → t.shared.d ≡ 16 → length (encode t) ≡ 382
longest-narrow-image t s e = omega (arith, image-length t s (omega (arith, e)), e)

pub shortest-wide-image : (t : Table) → Sized t → t.shared.d ≡ 17 → length (encode t) ≡ 722
unfolding room
shortest-wide-image t s e = omega (arith, wide-image-length t s (omega (arith, e)) (omega (arith, e)), e)

pub longest-image : (t : Table) → Sized t → t.shared.d ≡ 64 → length (encode t) ≡ 2602
unfolding room
longest-image t s e = omega (arith, wide-image-length t s (omega (arith, e)) (omega (arith, e)), e)

pub image-bytes : (t : Table) (i : ℕ) → get_or (encode t) i 0 < 256
image-bytes t i = encode-bytes t i

-- 5. A done write puts the image at the room's start and changes no other byte
pub only-image : (t : Table) (out next : List ℕ) (w : Result ℕ Answer) → Sized t → good t ≡ true → length (encode t) ≤ length out
    → w ≡ written (write_answer t (length out)) t → next ≡ room_after (write_answer t (length out)) t out
    → (w ≡ Ok (length (encode t)))
    × (take (result_unwrap_or w 0) next ≡ encode t)
    × (drop (result_unwrap_or w 0) next ≡ drop (result_unwrap_or w 0) out)
only-image t out next w s g h p q = write_done t out next w s g h p q

-- 6. What the check gives is what reading gives: D of the table that is read, or the refusal
pub check-accepts : (bs : List ℕ) (d : ℕ) → checked bs ≡ Ok d → ((decode bs).answer ≡ Done) × ((decode bs).table.shared.d ≡ d)
check-accepts bs d e =
    let r = read-accepted bs d e in
    (ap (λ (m : Made). m.answer) r, ap (λ (m : Made). m.table.shared.d) r ∙ d-held d bs)

pub check-refuses : (bs : List ℕ) (a : Answer) → checked bs ≡ Err a → decode bs ≡ refused a
check-refuses bs a e = read-refused bs a e
