-- Writing as the code does it: record by record, what is still to be written gives the whole image.
use Rattle.std.specs.Prelude.{◌≡◌, Bool, true, false, None, Some, Ok, Err, ℕ, zero, suc, ◌+◌, ◌≤◌, ◌<◌, get_or, take, drop}
use Rattle.std.proofs.Math.Path.{refl, ap}
use Rattle.std.proofs.Common.{sym, ◌∙◌, zero-mul, arith, length-append, drop_of_length-le, drop-cons, length-take-le}
use mathlib.Core.List.{List, [], ◌++◌, map, flat_map, append_assoc, append-nil}
use Rattle.std.proofs.Math.Nat.{suc-mul}
use native.Mathlib.Nat.{le_antisymm}
use Rattle.std.proofs.Math.Numerals.{add-one}
use borrow.Author.Tests.{lt-ltb, le-ltb}
use Rattle.std.proofs.Math.ListN.{length}
use Rattle.std.proofs.lemmas.List.Edits.{sets}
use Rattle.std.proofs.Math.Seq.{length-sets, get_or-take}
use Rattle.model.specs.declared.Table.{Table}
use Rattle.model.specs.declared.Fault.{Fault}
use Rattle.model.specs.declared.Answer.TheVariants.{Done, BadTable, ShortRoom}
use Rattle.model.specs.Table.{room, Sized, no_port, no_copies, port_at, copies_at}
use Rattle.model.specs.Good.{good, bad_in}
use Rattle.rules.specs.Found.{found}
use Rattle.rules.specs.Finding.{found-none, found-some}
use Rattle.model.specs.Bytes.{sum, pack}
use Rattle.model.specs.Layout.{shared_widths, port_widths, copied_widths, copies_widths, head_widths, shared_values, port_values, copied_values, copies_values, head_values, port_place, copies_place, size}
use Rattle.layout.specs.Laws.Records.{packs, length-pack}
use Rattle.records.specs.Records.{put_at}
use Rattle.records.specs.Laws.Rows.{sets-append}
use Rattle.records.specs.Laws.There.{put-inside}
use Rattle.model.proofs.Laws.Rules.{shared-rules}
use Rattle.image.specs.Image.{encode, write_answer, written, room_after}
use Rattle.image.proofs.Laws.Encoded.{length-encode}

-- of the bytes `all` to be written to the start of a room, `rest` is still to be written, from `at` on
pub record Writing (out all now : List ℕ) (at : ℕ) (rest : List ℕ) : Type 0 where
  pub fits : length all ≤ length out
  pub long : length now ≡ length out
  pub place : at + length rest ≡ length all
  pub text : sets now at rest ≡ sets out 0 all

-- one record put
put_next : (out all now next : List ℕ) (at to : ℕ) (ws vs rest : List ℕ) → to ≡ at + sum ws
    → Writing out all now at (pack ws vs ++ rest) → next ≡ put_at ws vs at now → Writing out all next to rest
put_next out all now next at to ws vs rest p w e =
    let l = length-append (pack ws vs) rest in
    let n = length-pack ws vs in
    let s : next ≡ sets now at (pack ws vs) = e ∙ put-inside ws vs at now (omega (arith, w.fits, w.long, w.place, l, n)) in
    let t : to ≡ at + length (pack ws vs) = omega (arith, p, n) in
    record {
      fits = w.fits;
      long = ap length s ∙ length-sets now at (pack ws vs) ∙ w.long;
      place = omega (arith, w.place, l, t);
      text = rw (s, t) (sym (sets-append now at (pack ws vs) rest) ∙ w.text);
    }

-- the records of the first n of a list, from i on
abbrev rows : {A : Type 0} → (A → List ℕ) → List ℕ → List A → ℕ → ℕ → List ℕ
rows f ws l n i = packs ws (map f (drop i (take n l)))

module _ {A : Type 0} (f : A → List ℕ) (z : A) (ws : List ℕ) (l : List A) (n : ℕ) (fits : n ≤ length l) where
  long : length (take n l) ≡ n
  long = length-take-le n l fits

  row_first : (i : ℕ) → i < n → (tail : List ℕ) → rows f ws l n i ++ tail ≡ pack ws (f (get_or l i z)) ++ (rows f ws l n (i + 1) ++ tail)
  unfolding flat_map
  row_first i h tail =
      rw (drop-cons (take n l) i z (rw long h), get_or-take n l i z h, add-one i)
      (append_assoc (pack ws (f (get_or l i z))) (packs ws (map f (drop (suc i) (take n l)))) tail)

  row_last : rows f ws l n n ≡ []
  unfolding flat_map
  row_last = rw (drop_of_length-le (take n l) {i = n} (omega (arith, long)))

-- what is still to be written of an image after the ports below i, and after the copy sets of those below j
abbrev pub PortsFrom : Table → List ℕ → List ℕ → ℕ → Type 0
PortsFrom t out now i =
    let d = t.shared.d in
    Writing out (encode t) now (port_place i)
    (rows port_values port_widths t.ports d i ++ (pack (copied_widths d) (copied_values t.shared) ++ rows copies_values (copies_widths d) t.copies d 0))

abbrev pub CopiesFrom : Table → List ℕ → List ℕ → ℕ → Type 0
CopiesFrom t out now j =
    Writing out (encode t) now (copies_place t.shared.d j) (rows copies_values (copies_widths t.shared.d) t.copies t.shared.d j ++ [])

-- each record of a table is written in its turn
module _ (t : Table) (s : Sized t) (h : t.shared.d ≤ room) (out : List ℕ) where
  pub start-written : (mid now : List ℕ) → size t.shared.d ≤ length out
      → mid ≡ put_at head_widths (head_values t.shared.d) 0 out → now ≡ put_at shared_widths (shared_values t.shared) (sum head_widths) mid
      → PortsFrom t out now 0
  unfolding encode port_place
  start-written mid now k p q =
      let f : length (encode t) ≤ length out = omega (arith, length-encode t s h, k) in
      put_next out (encode t) mid now (sum head_widths) (port_place 0) shared_widths (shared_values t.shared) _ (rw (zero-mul (sum port_widths)) (omega arith))
      (put_next out (encode t) out mid 0 (sum head_widths) head_widths (head_values t.shared.d) _ (omega arith)
      (record { fits = f; long = refl; place = omega arith; text = refl })
      p)
      q

  pub port-written : (now next : List ℕ) (i : ℕ) → i < t.shared.d → PortsFrom t out now i → next ≡ put_at port_widths (port_values (port_at t i)) (port_place i) now
      → PortsFrom t out next (i + 1)
  unfolding port_place
  port-written now next i l w e =
      put_next out (encode t) now next (port_place i) (port_place (i + 1)) port_widths (port_values (port_at t i)) _
      (rw (add-one i) (omega (arith, suc-mul i (sum port_widths))))
      (rw (row_first port_values no_port port_widths t.ports t.shared.d (omega (arith, s.ports, h)) i l _) at w)
      e

  pub copied-written : (now next : List ℕ) → PortsFrom t out now t.shared.d
      → next ≡ put_at (copied_widths t.shared.d) (copied_values t.shared) (port_place t.shared.d) now → CopiesFrom t out next 0
  unfolding copies_place
  copied-written now next w e =
      let d = t.shared.d in
      put_next out (encode t) now next (port_place d) (copies_place d 0) (copied_widths d) (copied_values t.shared) _
      (rw (zero-mul (sum (copies_widths d))) (omega arith))
      (rw (append-nil (rows copies_values (copies_widths d) t.copies d 0))
      (rw (row_last port_values no_port port_widths t.ports d (omega (arith, s.ports, h))) at w))
      e

  pub copies-written : (now next : List ℕ) (j : ℕ) → j < t.shared.d → CopiesFrom t out now j
      → next ≡ put_at (copies_widths t.shared.d) (copies_values (copies_at t j)) (copies_place t.shared.d j) now → CopiesFrom t out next (j + 1)
  unfolding copies_place
  copies-written now next j l w e =
      let d = t.shared.d in
      put_next out (encode t) now next (copies_place d j) (copies_place d (j + 1)) (copies_widths d) (copies_values (copies_at t j)) _
      (rw (add-one j) (omega (arith, suc-mul j (sum (copies_widths d)))))
      (rw (row_first copies_values no_copies (copies_widths d) t.copies d (omega (arith, s.copies, h)) j l []) at w)
      e

  pub all-written : (now : List ℕ) → CopiesFrom t out now t.shared.d → now ≡ sets out 0 (encode t)
  all-written now w = rw (row_last copies_values no_copies (copies_widths t.shared.d) t.copies t.shared.d (omega (arith, s.copies, h))) at w.text

-- what the check of a table finds says whether it is good
pub none-found : (t : Table) → found (bad_in t) ≡ None → good t ≡ true
none-found t e = go (good t) refl
  where
    go : (b : Bool) → good t ≡ b → good t ≡ true
    go true q = q
    go false q =
        let f : Some (bad_in t) ≡ None = sym (found-some t q) ∙ e in
        cc

pub some-found : (t : Table) (f : Fault) → found (bad_in t) ≡ Some f → (good t ≡ false) × (bad_in t ≡ f)
some-found t f e = go (good t) refl
  where
    go : (b : Bool) → good t ≡ b → (good t ≡ false) × (bad_in t ≡ f)
    go true q =
        let n : None ≡ Some f = sym (found-none t q) ∙ e in
        cc
    go false q =
        let n : Some (bad_in t) ≡ Some f = sym (found-some t q) ∙ e in
        (q, cc)

-- what writing answers
module _ (t : Table) (n : ℕ) where
  pub answer-bad : good t ≡ false → write_answer t n ≡ BadTable (bad_in t)
  unfolding write_answer
  answer-bad g = rw g

  pub answer-short : good t ≡ true → n < size t.shared.d → write_answer t n ≡ ShortRoom
  unfolding write_answer
  answer-short g k = rw (g, lt-ltb n (size t.shared.d) k)

  pub answer-done : good t ≡ true → size t.shared.d ≤ n → write_answer t n ≡ Done
  unfolding write_answer
  answer-done g k = rw (g, le-ltb n (size t.shared.d) k)

-- the room after the ports below k are put, and after the copy sets of those below j
pub ports_put : Table → List ℕ → ℕ → List ℕ
ports_put t now zero = now
ports_put t now (suc k) = put_at port_widths (port_values (port_at t k)) (port_place k) (ports_put t now k)

pub copies_put : Table → List ℕ → ℕ → List ℕ
copies_put t now zero = now
copies_put t now (suc j) = put_at (copies_widths t.shared.d) (copies_values (copies_at t j)) (copies_place t.shared.d j) (copies_put t now j)

module _ (t : Table) (start : List ℕ) where
  pub ports-begun : start ≡ ports_put t start 0
  unfolding ports_put
  ports-begun = refl

  pub copies-begun : start ≡ copies_put t start 0
  unfolding copies_put
  copies-begun = refl

  module _ (now next : List ℕ) (i : ℕ) where
    pub ports-next : now ≡ ports_put t start i → next ≡ put_at port_widths (port_values (port_at t i)) (port_place i) now → next ≡ ports_put t start (i + 1)
    unfolding ports_put
    ports-next e n = rw (n, e, add-one i)

    pub copies-next : now ≡ copies_put t start i → next ≡ put_at (copies_widths t.shared.d) (copies_values (copies_at t i)) (copies_place t.shared.d i) now
        → next ≡ copies_put t start (i + 1)
    unfolding copies_put
    copies-next e n = rw (n, e, add-one i)

module _ (t : Table) (s : Sized t) (h : t.shared.d ≤ room) (out : List ℕ) where
  ports-all : (now : List ℕ) (k : ℕ) → k ≤ t.shared.d → PortsFrom t out now 0 → PortsFrom t out (ports_put t now k) k
  unfolding ports_put
  ports-all now zero l w = w
  ports-all now (suc k) l w =
      rw (← add-one k) (port-written t s h out (ports_put t now k) (ports_put t now (suc k)) k (omega (arith, l)) (ports-all now k (omega (arith, l)) w) refl)

  copies-all : (now : List ℕ) (j : ℕ) → j ≤ t.shared.d → CopiesFrom t out now 0 → CopiesFrom t out (copies_put t now j) j
  unfolding copies_put
  copies-all now zero l w = w
  copies-all now (suc j) l w =
      rw (← add-one j) (copies-written t s h out (copies_put t now j) (copies_put t now (suc j)) j (omega (arith, l)) (copies-all now j (omega (arith, l)) w) refl)

-- what is answered, and the room, by what was found: it is said here by no name of the code, so that each goal finds it by itself
module _ (t : Table) where
  pub some-answer : (n : ℕ) (f : Fault) → found (bad_in t) ≡ Some f → Err (BadTable f) ≡ written (write_answer t n) t
  unfolding written
  some-answer n f e = let b = some-found t f e in rw (answer-bad t n b.0, b.1)

  pub some-room : (n : ℕ) (out : List ℕ) (f : Fault) → found (bad_in t) ≡ Some f → out ≡ room_after (write_answer t n) t out
  unfolding room_after
  some-room n out f e = let b = some-found t f e in rw (answer-bad t n b.0)

  pub none-fits : found (bad_in t) ≡ None → t.shared.d ≤ 64
  unfolding room
  none-fits e = (shared-rules t (none-found t e)).fits

  pub short-answer : (n : ℕ) → found (bad_in t) ≡ None → n < size t.shared.d → Err ShortRoom ≡ written (write_answer t n) t
  unfolding written
  short-answer n e k = rw (answer-short t n (none-found t e) k)

  pub short-room : (n : ℕ) (out : List ℕ) → found (bad_in t) ≡ None → n < size t.shared.d → out ≡ room_after (write_answer t n) t out
  unfolding room_after
  short-room n out e k = rw (answer-short t n (none-found t e) k)

  pub done-answer : (n : ℕ) → found (bad_in t) ≡ None → size t.shared.d ≤ n → Ok (size t.shared.d) ≡ written (write_answer t n) t
  unfolding written
  done-answer n e k = rw (answer-done t n (none-found t e) k)

  pub done-room : (out : List ℕ) (k j : ℕ) → length t.ports ≡ 64 → length t.copies ≡ 64 → found (bad_in t) ≡ None → size t.shared.d ≤ length out
      → k ≤ t.shared.d → t.shared.d ≤ k → j ≤ t.shared.d → t.shared.d ≤ j
      → copies_put t
      (put_at (copied_widths t.shared.d) (copied_values t.shared) (port_place t.shared.d)
      (ports_put t (put_at shared_widths (shared_values t.shared) (sum head_widths) (put_at head_widths (head_values t.shared.d) 0 out)) k))
      j
      ≡ room_after (write_answer t (length out)) t out
  unfolding room_after room
  done-room out k j a b e f k0 k1 j0 j1 =
      let d = t.shared.d in
      let s : Sized t = record { ports = a; copies = b } in
      let h = none-fits e in
      let begun = start-written t s h out _ _ f refl refl in
      let ports = ports-all t s h out _ d (omega arith) begun in
      let copied = copied-written t s h out _ _ ports refl in
      let all = copies-all t s h out _ d (omega arith) copied in
      rw (le_antisymm k0 k1, le_antisymm j0 j1, answer-done t (length out) (none-found t e) f) (all-written t s h out _ all)

-- what the goals of the writer are proved by, whatever their names
pub ruleset writing = (some-answer, some-room, none-fits, short-answer, short-room, done-answer, done-room)
