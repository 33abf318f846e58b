-- Reading as the code does it: by what the check answers, and port by port into a table that is all 0.
use Rattle.std.specs.Prelude.{◌≡◌, Bool, Ok, Err, List, [], ◌∷◌, ◌++◌, ℕ, suc, ◌+◌, ◌-◌, ◌<◌, length, get_or, set, take, replicate}
use Rattle.std.proofs.Math.Path.{refl}
use Rattle.std.proofs.Common.{sym, ap, ◌∙◌, add-one, arith, take-suc, length-take-le}
use Rattle.std.proofs.Math.Bool.{true, false}
use Rattle.std.proofs.Math.Nat.{sub-zero}
use Rattle.std.proofs.lemmas.List.{set_at}
use Rattle.std.proofs.Math.Seq.{append_snoc}
use Rattle.model.specs.declared.Port.{Port}
use Rattle.model.specs.declared.Copies.{Copies}
use Rattle.model.specs.declared.Shared.{Shared}
use Rattle.model.specs.declared.Table.{Table}
use Rattle.model.specs.declared.Made.{Made}
use Rattle.model.specs.Table.{room, table, no_port, no_copies, port_at, copies_at, size_good, fresh_table}
use Rattle.model.specs.Good.{good, bad_in}
use Rattle.model.specs.declared.Answer.{Answer}
use Rattle.model.specs.declared.Answer.TheVariants.{Done, BadTable, BadImage}
use Rattle.model.specs.Event.{number_of, fresh}
use Rattle.model.specs.Bytes.{value, unpack}
use Rattle.model.specs.Layout.{head_widths, d_in, is_image}
use Rattle.records.specs.Records.{ports_in}
use Rattle.records.specs.Laws.Head.{image-tests}
use Rattle.image.specs.Image.{held, refused, decode, checked}
use Rattle.image.proofs.Laws.Held.{port-above, copies-above, held_fits, held-sized}
use Rattle.image.proofs.Laws.Whole.{refill, tables}

-- the first i of a list as long as the room, and z in the place of the others: one more of them
abbrev pub filled : {A : Type 0} → A → List A → ℕ → List A
filled z l i = take i l ++ replicate (room - i) z

fill-turn : {A : Type 0} (z : A) (l : List A) (i : ℕ) → length l ≡ room → i < room → set (filled z l i) i (get_or l i z) ≡ filled z l (i + 1)
fill-turn z l i n h =
    let e : room - i ≡ suc (room - suc i) = omega arith in
    rw (e, add-one i, take-suc l i z (omega (arith, n, h)))
    (set_at (take i l) z (replicate (room - suc i) z) (get_or l i z) i (length-take-le i l (omega (arith, n, h)))
    ∙ sym (append_snoc (take i l) (get_or l i z) (replicate (room - suc i) z)))

-- the reader's loop over the d ports of an image: those below i are read
pub record Reading (bs : List ℕ) (d i : ℕ) (t : Table) : Type 0 where
  pub ports : t.ports ≡ filled no_port (held d bs).ports i
  pub copies : t.copies ≡ filled no_copies (held d bs).copies i
  pub shared : t.shared ≡ (held d bs).shared

module _ (bs : List ℕ) (d : ℕ) (e : d ≡ ports_in bs) (p : 0 < d) where
  pub read-start : (t : Table) (s : Shared) → t ≡ fresh_table 1 → s ≡ (held d bs).shared → Reading bs d 0 (table t.ports t.copies s)
  unfolding fresh_table
  read-start t s f g = rw f (record { ports = rw (sub-zero room); copies = rw (sub-zero room); shared = g })

  pub read-turn : (i : ℕ) (t : Table) (q : Port) (c : Copies) → i < d → Reading bs d i t → q ≡ port_at (held d bs) i → c ≡ copies_at (held d bs) i
      → Reading bs d (i + 1) (table (set t.ports i q) (set t.copies i c) t.shared)
  read-turn i t q c h r f g =
      let s = held-sized bs d e p in
      let m = held_fits bs d e p in
      record {
        ports = rw (r.ports, f) (fill-turn no_port (held d bs).ports i s.ports (omega (arith, h, m)));
        copies = rw (r.copies, g) (fill-turn no_copies (held d bs).copies i s.copies (omega (arith, h, m)));
        shared = r.shared;
      }

  pub read-end : (t : Table) → Reading bs d d t → t ≡ held d bs
  read-end t r =
      let s = held-sized bs d e p in
      tables t.ports _ t.copies _ t.shared _ (r.ports ∙ refill no_port (held d bs).ports d s.ports (λ k a b. port-above d bs k a))
      (r.copies ∙ refill no_copies (held d bs).copies d s.copies (λ k a b. copies-above d bs k a))
      r.shared

-- the table that the reader begins with
pub fresh-made : (m : Made) → m ≡ fresh 1 → m.table ≡ fresh_table 1
unfolding fresh size_good room
fresh-made m e = rw e

-- byte 1 is D
pub d-byte : (bs : List ℕ) → get_or bs 1 0 ≡ d_in bs
unfolding d_in head_widths unpack value
d-byte [] = refl
d-byte (b ∷ []) = refl
d-byte (b ∷ (c ∷ bs)) = omega arith

module _ (bs : List ℕ) where
  -- an image that is accepted, by the number
  pub accepted-image : number_of (decode bs).answer ≡ 0 → (is_image bs ≡ true) × (good (held (d_in bs) bs) ≡ true)
  unfolding decode
  accepted-image h = go (is_image bs) refl (good (held (d_in bs) bs)) refl
    where
      go : (b : Bool) → is_image bs ≡ b → (g : Bool) → good (held (d_in bs) bs) ≡ g → (is_image bs ≡ true) × (good (held (d_in bs) bs) ≡ true)
      go true q true r = (q, r)
      go true q false r = absurd (omega (arith, rw (q, r) at h))
      go false q g r = absurd (omega (arith, rw q at h))

  -- what the check's result says of it, and of reading
  pub accepted-ports : (d : ℕ) → checked bs ≡ Ok d → (d ≡ ports_in bs) × (0 < d)
  unfolding checked decode ports_in
  accepted-ports d e = go (is_image bs) refl (good (held (d_in bs) bs)) refl
    where
      go : (b : Bool) → is_image bs ≡ b → (g : Bool) → good (held (d_in bs) bs) ≡ g → (d ≡ ports_in bs) × (0 < d)
      go true q true r =
          let z : d_in bs ≡ d = let f : Ok (d_in bs) ≡ Ok d = rw (q, r) at e in cc in
          (sym z ∙ rw q, omega (arith, z, (image-tests bs q).some))
      go true q false r = let f : Err (BadTable (bad_in (held (d_in bs) bs))) ≡ Ok d = rw (q, r) at e in cc
      go false q g r = let f : Err BadImage ≡ Ok d = rw q at e in cc

  pub read-accepted : (d : ℕ) → checked bs ≡ Ok d → decode bs ≡ record { table = held d bs; answer = Done }
  unfolding checked decode
  read-accepted d e = go (is_image bs) refl (good (held (d_in bs) bs)) refl
    where
      go : (b : Bool) → is_image bs ≡ b → (g : Bool) → good (held (d_in bs) bs) ≡ g → decode bs ≡ record { table = held d bs; answer = Done }
      go true q true r = let z : d_in bs ≡ d = let f : Ok (d_in bs) ≡ Ok d = rw (q, r) at e in cc in rw (q, r, z)
      go true q false r = let f : Err (BadTable (bad_in (held (d_in bs) bs))) ≡ Ok d = rw (q, r) at e in cc
      go false q g r = let f : Err BadImage ≡ Ok d = rw q at e in cc

  pub read-refused : (a : Answer) → checked bs ≡ Err a → decode bs ≡ refused a
  unfolding checked decode
  read-refused a e = go (is_image bs) refl (good (held (d_in bs) bs)) refl
    where
      go : (b : Bool) → is_image bs ≡ b → (g : Bool) → good (held (d_in bs) bs) ≡ g → decode bs ≡ refused a
      go true q true r = let f : Ok (d_in bs) ≡ Err a = rw (q, r) at e in cc
      go true q false r = let f : Err (BadTable (bad_in (held (d_in bs) bs))) ≡ Err a = rw (q, r) at e in
          let z : BadTable (bad_in (held (d_in bs) bs)) ≡ a = cc in
          rw (q, r, ← z)
      go false q g r = let f : Err BadImage ≡ Err a = rw q at e in
          let z : BadImage ≡ a = cc in
          rw (q, ← z)

  -- what is answered, by the check's result
  pub answer-accepted : (d : ℕ) → checked bs ≡ Ok d → Done ≡ (decode bs).answer
  answer-accepted d e = ap (λ (m : Made). m.answer) (sym (read-accepted d e))

  pub answer-refused : (a : Answer) → checked bs ≡ Err a → a ≡ (decode bs).answer
  answer-refused a e = ap (λ (m : Made). m.answer) (sym (read-refused a e))

  -- what is not BAD IMAGE has ports, as many as byte 1 says: a bad table too
  pub ports-some : number_of (decode bs).answer < 11 → 0 < get_or bs 1 0
  unfolding decode
  ports-some h = go (is_image bs) refl
    where
      go : (b : Bool) → is_image bs ≡ b → 0 < get_or bs 1 0
      go true q = omega (arith, d-byte bs, (image-tests bs q).some)
      go false q = absurd (omega (arith, rw q at h))

  pub ports-byte : number_of (decode bs).answer < 11 → get_or bs 1 0 ≡ ports_in bs
  unfolding decode ports_in
  ports-byte h = go (is_image bs) refl
    where
      go : (b : Bool) → is_image bs ≡ b → get_or bs 1 0 ≡ ports_in bs
      go true q = rw q (d-byte bs)
      go false q = absurd (omega (arith, rw q at h))

  -- the table that goes with an answer, by the answer's number
  pub table-accepted : number_of (decode bs).answer ≡ 0 → (decode bs).table ≡ held (get_or bs 1 0) bs
  unfolding decode
  table-accepted h = let a = accepted-image h in rw (a.0, a.1, d-byte bs)

  pub table-refused : 0 < number_of (decode bs).answer → (decode bs).table ≡ fresh_table 1
  unfolding decode
  table-refused h = go (is_image bs) refl (good (held (d_in bs) bs)) refl
    where
      go : (b : Bool) → is_image bs ≡ b → (g : Bool) → good (held (d_in bs) bs) ≡ g → (decode bs).table ≡ fresh_table 1
      go true q true r = absurd (omega (arith, rw (q, r) at h))
      go true q false r = rw (q, r)
      go false q g r = rw q

-- what the goals of the reader are proved by, whatever their names
pub ruleset reading = (fresh-made, answer-accepted, answer-refused, ports-some, ports-byte, table-accepted, table-refused)
