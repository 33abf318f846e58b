-- Fields written at their places: the bytes are the image of the table with that field in it. No field has to fit its width.
use Rattle.std.specs.Prelude.{◌≡◌, Bool, true, false, ℕ, zero, suc, ◌+◌, ◌*◌, ◌≤◌, ◌<◌, length, get_or, set, take, drop}
use Rattle.std.proofs.Math.Path.{refl, sym, ap}
use Rattle.std.proofs.Common.{◌∙◌, zero-mul, suc-mul, add_comm, mul-le-mul_right, length-set, length-take-le, set-set}
use Rattle.std.proofs.lemmas.Bool.{false≢true}
use mathlib.Core.List.{List, [], ◌∷◌, ◌++◌, map, flat_map, append-nil}
use Rattle.std.proofs.Math.Nat.{add-zero}
use native.Mathlib.Omega.{arith}
use Rattle.std.proofs.Math.Seq.{sets, take-set-lt}
use Rattle.std.proofs.lemmas.List.{set-append_left, set-get_or, set_comm}
use Rattle.model.specs.declared.Word.{Word}
use Rattle.model.specs.declared.Port.{Port}
use Rattle.model.specs.declared.Copies.{Copies}
use Rattle.model.specs.declared.Shared.{Shared}
use Rattle.model.specs.declared.Table.{Table}
use Rattle.model.specs.declared.Cell.{Cell}
use Rattle.model.specs.declared.Cell.TheVariants.{Nothing, Status, Go, Spin, Active, Lock, CandidateGo, SeenSpin}
use Rattle.model.specs.Table.{put_copies as put_copies_at, room, shared, table, Sized, no_port, no_copies, port_at, copies_at, put_port}
use Rattle.model.specs.Step.{with_value, put_active, put_word}
use Rattle.model.specs.Parts.Charges.{put_shared, put_copies}
use Rattle.model.specs.Bytes.{little, sum, pack}
use Rattle.model.specs.Layout.{shared_widths, port_widths, set_width, copied_widths, copies_widths, head_widths, shared_values, port_values, copied_values, copies_values, head_values, port_place, copies_place}
use Rattle.layout.specs.Places.{set_place, value_place, word_place}
use Rattle.layout.specs.Laws.Digits.{length-little}
use Rattle.layout.specs.Laws.Records.{packs, length-pack, rows_long}
use Rattle.records.specs.Laws.There.{sets-whole}
use Rattle.image.specs.Image.{encode}

-- stores past the start of a list, and within its start
set_past : (a b : List ℕ) (i x : ℕ) → set (a ++ b) (length a + i) x ≡ a ++ set b i x
set_past [] b i x = let e : 0 + i ≡ i = omega arith in rw e
set_past (y ∷ a) b i x =
    let e : suc (length a) + i ≡ suc (length a + i) = omega arith in
    rw e (ap (λ (l : List ℕ). y ∷ l) (set_past a b i x))

sets-past : (a b xs : List ℕ) (n i : ℕ) → length a ≡ n → sets (a ++ b) (n + i) xs ≡ a ++ sets b i xs
sets-past a b [] n i e = refl
sets-past a b (x ∷ xs) n i e =
    let s : suc (n + i) ≡ n + suc i = omega arith in
    rw (s, ← e, set_past a b i x) (sets-past a (set b i x) xs (length a) (suc i) refl)

sets-within : (a b xs : List ℕ) (i : ℕ) → i + length xs ≤ length a → sets (a ++ b) i xs ≡ sets a i xs ++ b
sets-within a b [] i h = refl
sets-within a b (x ∷ xs) i h =
    rw (set-append_left a b i x (omega arith)) (sets-within (set a i x) b xs (suc i) (omega (arith, h, length-set a i x)))

-- a record in the place of another of its length
sets-instead : (a b xs : List ℕ) → length xs ≡ length a → sets (a ++ b) 0 xs ≡ xs ++ b
sets-instead a b xs e =
    sets-within a b xs 0 (omega (arith, e)) ∙ ap (λ (l : List ℕ). l ++ b) (sets-whole a xs (sym e))

-- a store before others, and within what was stored
set_before : (l xs : List ℕ) (i j x : ℕ) → i < j → set (sets l j xs) i x ≡ sets (set l i x) j xs
set_before l [] i j x h = refl
set_before l (y ∷ xs) i j x h = set_before (set l j y) xs i (suc j) x (omega (arith, h)) ∙ ap (λ (k : List ℕ). sets k (suc j) xs) (set_comm l j i y x (λ e. omega (arith, e, h)))

set-inner : (l r : List ℕ) (at i x : ℕ) → i < length r → set (sets l at r) (at + i) x ≡ sets l at (set r i x)
set-inner l [] at i x h = absurd (omega (arith, h))
set-inner l (y ∷ r) at zero x h =
    rw (add-zero at) (set_before (set l at y) r at (suc at) x (omega arith) ∙ ap (λ (k : List ℕ). sets k (suc at) r) (set-set l at y x))
set-inner l (y ∷ r) at (suc i) x h =
    let e : at + suc i ≡ suc at + i = omega arith in
    rw e (set-inner (set l at y) r (suc at) i x (omega (arith, h)))

sets-inner : (l r xs : List ℕ) (at i : ℕ) → i + length xs ≤ length r → sets (sets l at r) (at + i) xs ≡ sets l at (sets r i xs)
sets-inner l r [] at i h = refl
sets-inner l r (x ∷ xs) at i h =
    let e : suc (at + i) ≡ at + suc i = omega arith in
    rw (set-inner l r at i x (omega (arith, h)), e) (sets-inner l (set r i x) xs at (suc i) (omega (arith, h, length-set r i x)))

-- values with another at place i, and the record with that field written
abbrev pub replaced : ℕ → ℕ → List ℕ → List ℕ
replaced zero x vs = x ∷ drop 1 vs
replaced (suc i) x vs = get_or vs 0 0 ∷ replaced i x (drop 1 vs)

field_put : (ws vs : List ℕ) (i x : ℕ) → i < length ws → sets (pack ws vs) (sum (take i ws)) (little (get_or ws i 0) x) ≡ pack ws (replaced i x vs)
unfolding pack sum
field_put [] vs i x h = absurd (omega (arith, h))
field_put (w ∷ ws) vs zero x h =
    sets-instead (little w (get_or vs 0 0)) (pack ws (drop 1 vs)) (little w x) (length-little w x ∙ sym (length-little w (get_or vs 0 0)))
field_put (w ∷ ws) vs (suc i) x h =
    sets-past (little w (get_or vs 0 0)) (pack ws (drop 1 vs)) (little (get_or ws i 0) x) w (sum (take i ws)) (length-little w (get_or vs 0 0))
    ∙ ap (λ (l : List ℕ). little w (get_or vs 0 0) ++ l) (field_put ws (drop 1 vs) i x (omega (arith, h)))

field-inside : (ws : List ℕ) (i : ℕ) → i < length ws → sum (take i ws) + get_or ws i 0 ≤ sum ws
unfolding sum
field-inside [] i h = absurd (omega (arith, h))
field-inside (w ∷ ws) zero h = omega arith
field-inside (w ∷ ws) (suc i) h = omega (arith, field-inside ws i (omega (arith, h)))

-- a field of a record that stands at a place of the bytes
pub field_in : (l : List ℕ) (at : ℕ) (ws vs : List ℕ) (i x : ℕ) → i < length ws → sets l at (pack ws vs) ≡ l
    → sets l (at + sum (take i ws)) (little (get_or ws i 0) x) ≡ sets l at (pack ws (replaced i x vs))
field_in l at ws vs i x h e =
    ap (λ (k : List ℕ). sets k (at + sum (take i ws)) (little (get_or ws i 0) x)) (sym e)
    ∙ sets-inner l (pack ws vs) (little (get_or ws i 0) x) at (sum (take i ws))
    (omega (arith, length-little (get_or ws i 0) x, length-pack ws vs, field-inside ws i h))
    ∙ ap (sets l at) (field_put ws vs i x h)

-- one of many records, and one of the first d records of a list with what stands after them
packs-set : {A : Type 0} (f : A → List ℕ) (ws : List ℕ) (l : List A) (k : ℕ) (x : A) → k < length l
    → sets (packs ws (map f l)) (k * sum ws) (pack ws (f x)) ≡ packs ws (map f (set l k x))
unfolding flat_map
packs-set f ws [] k x h = absurd (omega (arith, h))
packs-set f ws (y ∷ l) zero x h =
    rw (zero-mul (sum ws)) (sets-instead (pack ws (f y)) (packs ws (map f l)) (pack ws (f x)) (length-pack ws (f x) ∙ sym (length-pack ws (f y))))
packs-set f ws (y ∷ l) (suc k) x h =
    let e : suc k * sum ws ≡ sum ws + k * sum ws = suc-mul k (sum ws) ∙ add_comm (k * sum ws) (sum ws) in
    rw e
    (sets-past (pack ws (f y)) (packs ws (map f l)) (pack ws (f x)) (sum ws) (k * sum ws) (length-pack ws (f y))
    ∙ ap (λ (r : List ℕ). pack ws (f y) ++ r) (packs-set f ws l k x (omega (arith, h))))

rows-set : {A : Type 0} (f : A → List ℕ) (ws : List ℕ) (l : List A) (d k : ℕ) (x : A) (rest : List ℕ) → d ≤ length l → k < d
    → sets (packs ws (map f (take d l)) ++ rest) (k * sum ws) (pack ws (f x)) ≡ packs ws (map f (take d (set l k x))) ++ rest
rows-set {A = A} f ws l d k x rest h q =
    let m : suc k * sum ws ≤ d * sum ws = mul-le-mul_right (sum ws) (omega arith) in
    sets-within (packs ws (map f (take d l))) rest (pack ws (f x)) (k * sum ws)
    (omega (arith, rows_long f ws l d h, length-pack ws (f x), m, suc-mul k (sum ws)))
    ∙ ap (λ (r : List ℕ). r ++ rest)
    (packs-set f ws (take d l) k x (omega (arith, q, length-take-le d l h)) ∙ ap (λ (y : List A). packs ws (map f y)) (sym (take-set-lt d l k x q)))

-- the records of a table's image, each written at its place
module _ (t : Table) (s : Sized t) (h : t.shared.d ≤ room) where
  abbrev d : ℕ
  d = t.shared.d

  abbrev head_row : List ℕ
  head_row = pack head_widths (head_values d)

  abbrev front_row : List ℕ
  front_row = pack shared_widths (shared_values t.shared)

  abbrev port_rows : List ℕ
  port_rows = packs port_widths (map port_values (take d t.ports))

  abbrev copied_row : List ℕ
  copied_row = pack (copied_widths d) (copied_values t.shared)

  abbrev copies_rows : List ℕ
  copies_rows = packs (copies_widths d) (map copies_values (take d t.copies))

  past_head : (i : ℕ) (xs : List ℕ) → sets (encode t) (sum head_widths + i) xs ≡ head_row ++ sets (front_row ++ (port_rows ++ (copied_row ++ copies_rows))) i xs
  unfolding encode
  past_head i xs = sets-past head_row _ xs (sum head_widths) i (length-pack head_widths (head_values d))

  past-front : (i : ℕ) (xs : List ℕ) → sets (encode t) (sum head_widths + sum shared_widths + i) xs
      ≡ head_row ++ (front_row ++ sets (port_rows ++ (copied_row ++ copies_rows)) i xs)
  past-front i xs =
      let e : sum head_widths + sum shared_widths + i ≡ sum head_widths + (sum shared_widths + i) = omega arith in
      rw e
      (past_head (sum shared_widths + i) xs
      ∙ ap (λ (l : List ℕ). head_row ++ l) (sets-past front_row _ xs (sum shared_widths) i (length-pack shared_widths (shared_values t.shared))))

  past-ports : (i : ℕ) (xs : List ℕ) → sets (encode t) (port_place d + i) xs ≡ head_row ++ (front_row ++ (port_rows ++ sets (copied_row ++ copies_rows) i xs))
  unfolding port_place
  past-ports i xs =
      let e : sum head_widths + sum shared_widths + d * sum port_widths + i ≡ sum head_widths + sum shared_widths + (d * sum port_widths + i) = omega arith in
      rw e
      (past-front (d * sum port_widths + i) xs
      ∙ ap (λ (l : List ℕ). head_row ++ (front_row ++ l))
      (sets-past port_rows _ xs (d * sum port_widths) i (rows_long port_values port_widths t.ports d (omega (arith, s.ports, h)))))

  -- ACTIVE and the word, from the record u
  front-put : (u : Shared) → sets (encode t) (sum head_widths) (pack shared_widths (shared_values u))
      ≡ encode (table t.ports t.copies (shared u.active t.shared.activecopies t.shared.wordcopies d u.word))
  unfolding encode shared_values copied_values
  front-put u =
      ap (λ (i : ℕ). sets (encode t) i (pack shared_widths (shared_values u))) (sym (add-zero (sum head_widths)))
      ∙ past_head 0 (pack shared_widths (shared_values u))
      ∙ ap (λ (l : List ℕ). head_row ++ l)
      (sets-instead front_row _ (pack shared_widths (shared_values u)) (length-pack shared_widths (shared_values u) ∙ sym (length-pack shared_widths (shared_values t.shared))))

  -- the copy sets that all share, from the record u
  copied-put : (u : Shared) → sets (encode t) (port_place d) (pack (copied_widths d) (copied_values u))
      ≡ encode (table t.ports t.copies (shared t.shared.active u.activecopies u.wordcopies d t.shared.word))
  unfolding encode shared_values copied_values
  copied-put u =
      ap (λ (i : ℕ). sets (encode t) i (pack (copied_widths d) (copied_values u))) (sym (add-zero (port_place d)))
      ∙ past-ports 0 (pack (copied_widths d) (copied_values u))
      ∙ ap (λ (l : List ℕ). head_row ++ (front_row ++ (port_rows ++ l)))
      (sets-instead copied_row copies_rows (pack (copied_widths d) (copied_values u)) (length-pack (copied_widths d) (copied_values u) ∙ sym (length-pack (copied_widths d) (copied_values t.shared))))

  pub port-put : (k : ℕ) (p : Port) → k < d → sets (encode t) (port_place k) (pack port_widths (port_values p)) ≡ encode (put_port t k p)
  unfolding port_place encode
  port-put k p q =
      past-front (k * sum port_widths) (pack port_widths (port_values p))
      ∙ ap (λ (l : List ℕ). head_row ++ (front_row ++ l)) (rows-set port_values port_widths t.ports d k p (copied_row ++ copies_rows) (omega (arith, s.ports, h)) q)

  copies-put : (k : ℕ) (c : Copies) → k < d → sets (encode t) (copies_place d k) (pack (copies_widths d) (copies_values c)) ≡ encode (put_copies_at t k c)
  unfolding copies_place encode
  copies-put k c q =
      let e : port_place d + sum (copied_widths d) + k * sum (copies_widths d) ≡ port_place d + (sum (copied_widths d) + k * sum (copies_widths d)) = omega arith in
      let r = rows-set copies_values (copies_widths d) t.copies d k c [] (omega (arith, s.copies, h)) q in
      rw e
      (past-ports (sum (copied_widths d) + k * sum (copies_widths d)) (pack (copies_widths d) (copies_values c))
      ∙ ap (λ (l : List ℕ). head_row ++ (front_row ++ (port_rows ++ l)))
      (sets-past copied_row copies_rows (pack (copies_widths d) (copies_values c)) (sum (copied_widths d)) (k * sum (copies_widths d)) (length-pack (copied_widths d) (copied_values t.shared))
      ∙ ap (λ (l : List ℕ). copied_row ++ l)
      (rw (append-nil copies_rows, append-nil (packs (copies_widths d) (map copies_values (take d (set t.copies k c))))) at r)))

-- a record of one field
single : (w x : ℕ) → pack (w ∷ []) (x ∷ []) ≡ little w x
unfolding pack
single w x = append-nil (little w x)

-- a step's touch is of a word
abbrev pub is_word : Cell → Bool
is_word Nothing = false
is_word Status = true
is_word Go = true
is_word Spin = true
is_word Active = true
is_word Lock = true
is_word CandidateGo = true
is_word SeenSpin = true

-- the table with n for the copy set of a word that belongs to port j
abbrev pub set_in : Cell → ℕ → ℕ → Table → Table
set_in c n j t = table t.ports (set t.copies j (put_copies c n (copies_at t j))) (put_shared c n t.shared)

-- single fields of a table's image, each written at its place
module _ (t : Table) (s : Sized t) (h : t.shared.d ≤ room) where
  own-copies : (j : ℕ) (u : Shared) → encode (table t.ports t.copies u) ≡ encode (table t.ports (set t.copies j (copies_at t j)) u)
  own-copies j u = ap (λ (cs : List Copies). encode (table t.ports cs u)) (sym (set-get_or t.copies j no_copies))

  pub value-put : (k x : ℕ) → k < t.shared.d → sets (encode t) (value_place k) (pack (1 ∷ []) (x ∷ [])) ≡ encode (put_port t k (with_value x (port_at t k)))
  unfolding value_place port_widths port_values sum
  value-put k x q =
      rw (single 1 x)
      (field_in (encode t) (port_place k) port_widths (port_values (port_at t k)) 3 x (omega arith)
      (port-put t s h k (port_at t k) q ∙ ap (λ (ps : List Port). encode (table ps t.copies t.shared)) (set-get_or t.ports k no_port))
      ∙ port-put t s h k (with_value x (port_at t k)) q)

  pub active-put : (a : ℕ) → sets (encode t) (sum head_widths) (pack (8 ∷ []) (a ∷ [])) ≡ encode (put_active t a)
  unfolding shared_widths shared_values sum
  active-put a =
      let e : sum head_widths + 0 ≡ sum head_widths = add-zero (sum head_widths) in
      rw (single 8 a)
      (ap (λ (i : ℕ). sets (encode t) i (little 8 a)) (sym e)
      ∙ field_in (encode t) (sum head_widths) shared_widths (shared_values t.shared) 0 a (omega arith) (front-put t s h t.shared)
      ∙ front-put t s h (put_active t a).shared)

  pub word-put : (w : Word) → sets (encode t) word_place (pack (1 ∷ 1 ∷ 2 ∷ []) (w.taken ∷ w.owner ∷ w.spin ∷ [])) ≡ encode (put_word t w)
  unfolding word_place shared_widths shared_values pack sum
  word-put w =
      let old = pack (1 ∷ 1 ∷ 2 ∷ []) (t.shared.word.taken ∷ t.shared.word.owner ∷ t.shared.word.spin ∷ []) in
      let new = pack (1 ∷ 1 ∷ 2 ∷ []) (w.taken ∷ w.owner ∷ w.spin ∷ []) in
      let front = little 8 t.shared.active in
      let r : sets (front ++ old) 8 new ≡ front ++ new =
      sets-past front old new 8 0 (length-little 8 t.shared.active)
      ∙ ap (λ (l : List ℕ). front ++ l)
      (sets-whole old new (length-pack (1 ∷ 1 ∷ 2 ∷ []) (t.shared.word.taken ∷ t.shared.word.owner ∷ t.shared.word.spin ∷ [])
      ∙ sym (length-pack (1 ∷ 1 ∷ 2 ∷ []) (w.taken ∷ w.owner ∷ w.spin ∷ [])))) in
      ap (λ (k : List ℕ). sets k (sum head_widths + 8) new) (sym (front-put t s h t.shared))
      ∙ sets-inner (encode t) (front ++ old) new (sum head_widths) 8
      (omega (arith, length-pack shared_widths (shared_values t.shared), length-pack (1 ∷ 1 ∷ 2 ∷ []) (w.taken ∷ w.owner ∷ w.spin ∷ [])))
      ∙ ap (sets (encode t) (sum head_widths)) r
      ∙ front-put t s h (put_word t w).shared

  -- a copy set of port j, field i of its three, as the copies c have it; and one of the two that all share, as u has it
  copies-field : (i off n j : ℕ) (c : Copies) → i < length (copies_widths t.shared.d) → off ≡ sum (take i (copies_widths t.shared.d))
      → get_or (copies_widths t.shared.d) i 0 ≡ set_width t.shared.d → j < t.shared.d → replaced i n (copies_values (copies_at t j)) ≡ copies_values c
      → sets (encode t) (copies_place t.shared.d j + off) (pack (set_width t.shared.d ∷ []) (n ∷ [])) ≡ encode (put_copies_at t j c)
  copies-field i off n j c l o w q e =
      let d = t.shared.d in
      let f = field_in (encode t) (copies_place d j) (copies_widths d) (copies_values (copies_at t j)) i n l (copies-put t s h j (copies_at t j) q ∙ sym (own-copies j t.shared)) in
      rw (single (set_width d) n, o, ← w) (f ∙ ap (λ (vs : List ℕ). sets (encode t) (copies_place d j) (pack (copies_widths d) vs)) e ∙ copies-put t s h j c q)

  copied-field : (i off n j : ℕ) (u : Shared) → i < length (copied_widths t.shared.d) → off ≡ sum (take i (copied_widths t.shared.d))
      → get_or (copied_widths t.shared.d) i 0 ≡ set_width t.shared.d → replaced i n (copied_values t.shared) ≡ copied_values u
      → sets (encode t) (port_place t.shared.d + off) (pack (set_width t.shared.d ∷ []) (n ∷ []))
      ≡ encode (table t.ports (set t.copies j (copies_at t j)) (shared t.shared.active u.activecopies u.wordcopies t.shared.d t.shared.word))
  copied-field i off n j u l o w e =
      let d = t.shared.d in
      let f = field_in (encode t) (port_place d) (copied_widths d) (copied_values t.shared) i n l (copied-put t s h t.shared) in
      rw (single (set_width d) n, o, ← w)
      (f ∙ ap (λ (vs : List ℕ). sets (encode t) (port_place d) (pack (copied_widths d) vs)) e ∙ copied-put t s h u ∙ own-copies j _)

  pub set-put : (c : Cell) (j n : ℕ) → is_word c ≡ true → j < t.shared.d
      → sets (encode t) (set_place c t.shared.d j) (pack (set_width t.shared.d ∷ []) (n ∷ [])) ≡ encode (set_in c n j t)
  unfolding copied_widths copies_widths copied_values copies_values sum
  set-put Nothing j n z q = absurd (false≢true z)
  set-put Status j n z q =
      ap (λ (i : ℕ). sets (encode t) i (pack (set_width t.shared.d ∷ []) (n ∷ []))) (sym (add-zero (copies_place t.shared.d j)))
      ∙ copies-field 0 0 n j (put_copies Status n (copies_at t j)) (omega arith) refl refl q refl
  set-put Go j n z q = copies-field 1 _ n j (put_copies Go n (copies_at t j)) (omega arith) (omega arith) refl q refl
  set-put Spin j n z q = copies-field 2 _ n j (put_copies Spin n (copies_at t j)) (omega arith) (omega arith) refl q refl
  set-put Active j n z q =
      ap (λ (i : ℕ). sets (encode t) i (pack (set_width t.shared.d ∷ []) (n ∷ []))) (sym (add-zero (port_place t.shared.d)))
      ∙ copied-field 0 0 n j (put_shared Active n t.shared) (omega arith) refl refl refl
  set-put Lock j n z q = copied-field 1 _ n j (put_shared Lock n t.shared) (omega arith) (omega arith) refl refl
  set-put CandidateGo j n z q = copies-field 1 _ n j (put_copies CandidateGo n (copies_at t j)) (omega arith) (omega arith) refl q refl
  set-put SeenSpin j n z q = copies-field 2 _ n j (put_copies SeenSpin n (copies_at t j)) (omega arith) (omega arith) refl q refl
