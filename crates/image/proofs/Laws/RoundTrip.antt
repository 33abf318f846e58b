-- A good table, encoded and decoded, is the same table.
use Rattle.std.specs.Prelude.{◌≡◌, refl, true, ℕ, ◌+◌, ◌-◌, ◌*◌, ◌≤◌, take, drop, replicate}
use Rattle.std.proofs.Common.{sym, ◌∙◌, zero-mul, drop-drop, get_or-take}
use Rattle.std.proofs.Math.Path.{ap}
use mathlib.Core.List.{List, [], ◌∷◌, ◌++◌, map, zip_with, append-nil}
use Rattle.std.proofs.Math.Nat.{add-zero}
use native.Mathlib.Omega.{arith}
use borrow.Author.Tests.{eq-eqb, le-leb}
use Rattle.std.proofs.Math.ListN.{length}
use Rattle.std.proofs.lemmas.List.{length-map}
use Rattle.std.proofs.Math.Seq.{drop-append-add, drop_at, length-take-le}
use Rattle.model.specs.declared.Table.{Table}
use Rattle.model.specs.declared.Answer.TheVariants.{Done}
use Rattle.model.specs.Table.{room, Sized, no_port, no_copies, size_good}
use Rattle.model.specs.Good.{good}
use Rattle.model.proofs.Laws.Rules.{shared-rules}
use Rattle.model.specs.Bytes.{sum, pack, unpack, unpacks}
use Rattle.model.specs.Layout.{shared_widths, port_widths, copied_widths, copies_widths, head_widths, shared_values, port_values, copied_values, copies_values, head_values, shared_of, port_of, copies_of, port_place, copies_place, size, d_in, is_image}
use Rattle.layout.specs.Laws.Records.{packs, AllFit, length-pack, unpack-pack, unpacks-packs}
use Rattle.records.specs.Laws.Rows.{same}
use Rattle.image.specs.Image.{encode, held, decode}
use Rattle.image.proofs.Laws.Whole.{tables, refill}
use Rattle.image.proofs.Laws.Encoded.{length-encode, rows_long}
use Rattle.image.proofs.Laws.Fits.{head-fits, shared-fits, copied-fits, port-fits, copies-fits, all_fit}
use Rattle.image.proofs.Laws.Empty.{empty-above}

-- a list is the same as itself
same_refl : (l : List ℕ) → same l l ≡ true
unfolding zip_with
same_refl [] = refl
same_refl (x ∷ l) = rw (eq-eqb x x refl, same_refl l)

-- past the start of a list
past : (xs ys : List ℕ) (n m : ℕ) → length xs ≡ n → drop (n + m) (xs ++ ys) ≡ drop m ys
past xs ys n m e = rw (← e) (drop-append-add xs ys m)

-- records of one kind, there and back
module _ {A : Type 0} (f : A → List ℕ) (of : List ℕ → A) (ws : List ℕ) where
  back : ((x : A) → of (f x) ≡ x) → (l : List A) (n : ℕ) → length l ≡ n → AllFit ws (map f l) → (rest : List ℕ)
      → map of (unpacks ws n (packs ws (map f l) ++ rest)) ≡ l
  back h l n e a rest =
      let k : length (map f l) ≡ n = length-map l f ∙ e in
      ap (λ (m : ℕ). map of (unpacks ws m (packs ws (map f l) ++ rest))) (sym k)
      ∙ ap (map of) (unpacks-packs ws (map f l) rest a)
      ∙ kept l
    where
      kept : (l : List A) → map of (map f l) ≡ l
      kept [] = refl
      kept (x ∷ l) = rw (h x, kept l)

-- the parts of an image after the head
abbrev after_ports : Table → List ℕ
after_ports t = pack (copied_widths t.shared.d) (copied_values t.shared) ++ packs (copies_widths t.shared.d) (map copies_values (take t.shared.d t.copies))

abbrev after_shared : Table → List ℕ
after_shared t = packs port_widths (map port_values (take t.shared.d t.ports)) ++ after_ports t

module _ (t : Table) where
  at-shared : drop (sum head_widths) (encode t) ≡ pack shared_widths (shared_values t.shared) ++ after_shared t
  unfolding encode
  at-shared =
      drop_at (pack head_widths (head_values t.shared.d)) (pack shared_widths (shared_values t.shared) ++ after_shared t) (sum head_widths)
      (length-pack head_widths (head_values t.shared.d))

  at-port : (k : ℕ) → drop (port_place k) (encode t) ≡ drop (k * sum port_widths) (after_shared t)
  unfolding port_place
  at-port k =
      let e : sum head_widths + sum shared_widths + k * sum port_widths ≡ sum head_widths + (sum shared_widths + k * sum port_widths) = omega arith in
      rw e
      (sym (drop-drop (sum shared_widths + k * sum port_widths) (sum head_widths) (encode t))
      ∙ ap (drop (sum shared_widths + k * sum port_widths)) at-shared
      ∙ past (pack shared_widths (shared_values t.shared)) (after_shared t) (sum shared_widths) (k * sum port_widths)
      (length-pack shared_widths (shared_values t.shared)))

  at-ports : drop (port_place 0) (encode t) ≡ after_shared t
  at-ports = at-port 0 ∙ ap (λ (n : ℕ). drop n (after_shared t)) (zero-mul (sum port_widths))

  module _ (s : Sized t) (h : t.shared.d ≤ room) where
    at-copied : drop (port_place t.shared.d) (encode t) ≡ after_ports t
    at-copied =
        at-port t.shared.d
        ∙ drop_at (packs port_widths (map port_values (take t.shared.d t.ports))) (after_ports t) (t.shared.d * sum port_widths)
        (rows_long port_values port_widths t.ports t.shared.d (omega (arith, s.ports, h)))

    at_copies : drop (copies_place t.shared.d 0) (encode t) ≡ packs (copies_widths t.shared.d) (map copies_values (take t.shared.d t.copies))
    unfolding copies_place
    at_copies =
        let d = t.shared.d in
        let e : port_place d + sum (copied_widths t.shared.d) + 0 * sum (copies_widths t.shared.d) ≡ port_place d + sum (copied_widths t.shared.d) = rw (zero-mul (sum (copies_widths t.shared.d)), add-zero (port_place d + sum (copied_widths t.shared.d))) in
        rw e
        (sym (drop-drop (sum (copied_widths t.shared.d)) (port_place d) (encode t))
        ∙ ap (drop (sum (copied_widths t.shared.d))) at-copied
        ∙ drop_at (pack (copied_widths t.shared.d) (copied_values t.shared)) (packs (copies_widths t.shared.d) (map copies_values (take d t.copies))) (sum (copied_widths t.shared.d))
        (length-pack (copied_widths t.shared.d) (copied_values t.shared)))

  module _ (s : Sized t) (g : good t ≡ true) where
    fits : t.shared.d ≤ room
    fits = (shared-rules t g).fits

    head-back : unpack head_widths (encode t) ≡ head_values t.shared.d
    unfolding encode
    head-back = unpack-pack head_widths (head_values t.shared.d) _ (head-fits t.shared.d fits)

    pub d-back : d_in (encode t) ≡ t.shared.d
    unfolding d_in head_values
    d-back = rw head-back

    pub image-back : is_image (encode t) ≡ true
    unfolding is_image size_good
    image-back =
        rw (
          d-back,
          head-back,
          le-leb 1 t.shared.d (shared-rules t g).some,
          le-leb t.shared.d room fits,
          eq-eqb (length (encode t)) (size t.shared.d) (length-encode t s fits),
          same_refl (head_values t.shared.d),
        )

    shared_back : shared_of t.shared.d (unpack shared_widths (drop (sum head_widths) (encode t))) (unpack (copied_widths t.shared.d) (drop (port_place t.shared.d) (encode t))) ≡ t.shared
    unfolding shared_of shared_values copied_values
    shared_back =
        rw (
          at-shared,
          at-copied s fits,
          unpack-pack shared_widths (shared_values t.shared) (after_shared t) (shared-fits t g),
          unpack-pack (copied_widths t.shared.d) (copied_values t.shared) _ (copied-fits t g),
        )

    ports-back : map port_of (unpacks port_widths t.shared.d (drop (port_place 0) (encode t))) ++ replicate (room - t.shared.d) no_port ≡ t.ports
    unfolding port_of port_values
    ports-back =
        let d = t.shared.d in
        let l : length (take d t.ports) ≡ d = length-take-le d t.ports (omega (arith, s.ports, fits)) in
        rw (
          at-ports,
          back port_values port_of port_widths (λ p. refl) (take d t.ports) d l
              (all_fit port_values no_port port_widths (take d t.ports) (λ k q. rw (get_or-take d t.ports k no_port (omega (arith, q, l))) (port-fits t g k (omega (arith, q, l)))))
              (after_ports t),
        )
        (refill no_port t.ports d s.ports (λ k a b. (empty-above t g k a b).0))

    copies-back : map copies_of (unpacks (copies_widths t.shared.d) t.shared.d (drop (copies_place t.shared.d 0) (encode t))) ++ replicate (room - t.shared.d) no_copies ≡ t.copies
    unfolding copies_of copies_values
    copies-back =
        let d = t.shared.d in
        let l : length (take d t.copies) ≡ d = length-take-le d t.copies (omega (arith, s.copies, fits)) in
        rw (
          at_copies s fits,
          ← (append-nil (packs (copies_widths t.shared.d) (map copies_values (take d t.copies)))),
          back copies_values copies_of (copies_widths t.shared.d) (λ c. refl) (take d t.copies) d l
              (all_fit copies_values no_copies (copies_widths t.shared.d) (take d t.copies) (λ k q. rw (get_or-take d t.copies k no_copies (omega (arith, q, l))) (copies-fits t g k (omega (arith, q, l)))))
              [],
        )
        (refill no_copies t.copies d s.copies (λ k a b. (empty-above t g k a b).1))

    pub held_back : held t.shared.d (encode t) ≡ t
    unfolding held
    held_back = tables _ t.ports _ t.copies _ t.shared ports-back copies-back shared_back

    pub decode-encode : decode (encode t) ≡ record { table = t; answer = Done }
    unfolding decode
    decode-encode = rw (image-back, d-back, held_back, g)
