-- An image, decoded and encoded, is the same bytes.
use Rattle.std.specs.Prelude.{◌≡◌, true, ℕ, zero, suc, ◌+◌, ◌-◌, ◌*◌, eqb, length, take, drop, replicate}
use Rattle.std.proofs.Math.Path.{refl}
use Rattle.std.proofs.Common.{sym, ap, ◌∙◌, zero-mul, arith, eqb-true, length-drop, take-append-drop, take_at, drop-drop}
use Rattle.std.proofs.Math.Bool.{and-eq-true_iff}
use mathlib.Core.List.{List, [], ◌∷◌, ◌++◌, map, zip_with}
use Rattle.std.proofs.lemmas.List.{length-map}
use Rattle.std.proofs.Math.Seq.{take_all}
use Rattle.model.specs.Table.{room, no_port, no_copies}
use Rattle.model.specs.Bytes.{Bytes, sum, pack, unpack, unpacks}
use Rattle.model.specs.Layout.{shared_widths, port_widths, copied_widths, copies_widths, head_widths, shared_values, port_values, copied_values, copies_values, head_values, shared_of, port_of, copies_of, port_place, copies_place, size, d_in, is_image}
use Rattle.layout.specs.Laws.Digits.{bytes_drop}
use Rattle.layout.specs.Laws.Records.{packs, pack-unpack, packs-unpacks, length-unpack, length-unpacks}
use Rattle.records.specs.Laws.Rows.{same}
use Rattle.records.specs.Laws.Head.{image-tests}
use Rattle.image.specs.Image.{encode, held}

-- two lists that are the same are equal
same-equal : (a b : List ℕ) → length a ≡ length b → same a b ≡ true → a ≡ b
unfolding zip_with
same-equal [] [] l e = refl
same-equal [] (y ∷ b) l e = absurd (omega (arith, l))
same-equal (x ∷ a) [] l e = absurd (omega (arith, l))
same-equal (x ∷ a) (y ∷ b) l e =
    let h = (and-eq-true_iff (eqb x y) (same a b)).0 e in
    rw (eqb-true x y h.0, same-equal a b (omega (arith, l)) h.1)

-- records of one kind, read and laid out again
forth : {A : Type 0} (f : A → List ℕ) (of : List ℕ → A) (ws : List ℕ) → ((bs : List ℕ) → f (of (unpack ws bs)) ≡ unpack ws bs) → (n : ℕ) (bs : List ℕ)
    → map f (map of (unpacks ws n bs)) ≡ unpacks ws n bs
unfolding unpacks
forth f of ws h zero bs = refl
forth f of ws h (suc n) bs = rw (h bs, forth f of ws h n (drop (sum ws) bs))

-- a piece of a list, and the rest
piece : (bs : List ℕ) (a n b : ℕ) → a + n ≡ b → take n (drop a bs) ++ drop b bs ≡ drop a bs
piece bs a n b e = ap (λ (l : List ℕ). take n (drop a bs) ++ l) (ap (λ (m : ℕ). drop m bs) (sym e) ∙ sym (drop-drop n a bs)) ∙ take-append-drop n (drop a bs)

-- the first n records of a table that was read
first-records : {A : Type 0} (of : List ℕ → A) (z : A) (ws : List ℕ) (n m : ℕ) (bs : List ℕ) → take n (map of (unpacks ws n bs) ++ replicate m z) ≡ map of (unpacks ws n bs)
first-records of z ws n m bs = take_at (map of (unpacks ws n bs)) (replicate m z) n (length-map (unpacks ws n bs) of ∙ length-unpacks ws n bs)

module _ (bs : List ℕ) (f : Bytes bs) (e : is_image bs ≡ true) where
  long : length bs ≡ size (d_in bs)
  long = (image-tests bs e).long

  head-again : pack head_widths (head_values (d_in bs)) ≡ take (sum head_widths) bs
  unfolding head_widths head_values size port_place copies_place sum
  head-again =
      rw (← (same-equal (unpack head_widths bs) (head_values (d_in bs)) (length-unpack head_widths bs) (image-tests bs e).head))
      (pack-unpack head_widths bs f (omega (arith, long)))

  shared-again : pack shared_widths (shared_values (held (d_in bs) bs).shared) ≡ take (sum shared_widths) (drop (sum head_widths) bs)
  unfolding held shared_of shared_values unpack shared_widths size port_place copies_place sum
  shared-again =
      pack-unpack shared_widths (drop (sum head_widths) bs) (bytes_drop (sum head_widths) bs f) (rw (length-drop (sum head_widths) bs) (omega (arith, long)))

  copied-again : pack (copied_widths (d_in bs)) (copied_values (held (d_in bs) bs).shared) ≡ take (sum (copied_widths (d_in bs))) (drop (port_place (d_in bs)) bs)
  unfolding held shared_of copied_values unpack copied_widths port_place size copies_place sum
  copied-again =
      pack-unpack (copied_widths (d_in bs)) (drop (port_place (d_in bs)) bs) (bytes_drop (port_place (d_in bs)) bs f) (rw (length-drop (port_place (d_in bs)) bs) (omega (arith, long)))

  ports-again : packs port_widths (map port_values (take (d_in bs) (held (d_in bs) bs).ports)) ≡ take (d_in bs * sum port_widths) (drop (port_place 0) bs)
  unfolding held port_of port_values unpack port_widths port_place size copies_place sum
  ports-again =
      rw (first-records port_of no_port port_widths (d_in bs) (room - d_in bs) (drop (port_place 0) bs), forth port_values port_of port_widths (λ b. refl) (d_in bs) (drop (port_place 0) bs))
      (packs-unpacks port_widths (d_in bs) (drop (port_place 0) bs) (bytes_drop (port_place 0) bs f) (rw (length-drop (port_place 0) bs) (omega (arith, long))))

  copies-again : packs (copies_widths (d_in bs)) (map copies_values (take (d_in bs) (held (d_in bs) bs).copies)) ≡ take (d_in bs * sum (copies_widths (d_in bs))) (drop (copies_place (d_in bs) 0) bs)
  unfolding held copies_of copies_values unpack copies_widths port_place copies_place size sum
  copies-again =
      rw (first-records copies_of no_copies (copies_widths (d_in bs)) (d_in bs) (room - d_in bs) (drop (copies_place (d_in bs) 0) bs), forth copies_values copies_of (copies_widths (d_in bs)) (λ b. refl) (d_in bs) (drop (copies_place (d_in bs) 0) bs))
      (packs-unpacks (copies_widths (d_in bs)) (d_in bs) (drop (copies_place (d_in bs) 0) bs) (bytes_drop (copies_place (d_in bs) 0) bs f) (rw (length-drop (copies_place (d_in bs) 0) bs) (omega (arith, long))))

  d-again : (held (d_in bs) bs).shared.d ≡ d_in bs
  unfolding held shared_of
  d-again = refl

  -- the pieces follow one another without gaps, and the last ends the image
  last : take (d_in bs * sum (copies_widths (d_in bs))) (drop (copies_place (d_in bs) 0) bs) ≡ drop (copies_place (d_in bs) 0) bs
  unfolding port_place copies_place size sum shared_widths port_widths copied_widths copies_widths head_widths
  last = take_all (d_in bs * sum (copies_widths (d_in bs))) (drop (copies_place (d_in bs) 0) bs) (rw (length-drop (copies_place (d_in bs) 0) bs) (omega (arith, long)))

  copies-next : port_place (d_in bs) + sum (copied_widths (d_in bs)) ≡ copies_place (d_in bs) 0
  unfolding copies_place
  copies-next = rw (zero-mul (sum (copies_widths (d_in bs)))) (omega arith)

  copied_next : port_place 0 + d_in bs * sum port_widths ≡ port_place (d_in bs)
  unfolding port_place
  copied_next = rw (zero-mul (sum port_widths)) (omega arith)

  ports-next : sum head_widths + sum shared_widths ≡ port_place 0
  unfolding port_place
  ports-next = rw (zero-mul (sum port_widths)) (omega arith)

  pub encode-held : encode (held (d_in bs) bs) ≡ bs
  unfolding encode
  encode-held =
      let d = d_in bs in
      rw (
        d-again,
        head-again,
        shared-again,
        ports-again,
        copied-again,
        copies-again,
        last,
        piece bs (port_place d) (sum (copied_widths (d_in bs))) (copies_place d 0) copies-next,
        piece bs (port_place 0) (d * sum port_widths) (port_place d) copied_next,
        piece bs (sum head_widths) (sum shared_widths) (port_place 0) ports-next,
      )
      (take-append-drop (sum head_widths) bs)
