-- The table that the bytes of an image hold, and its records where they stand in the bytes.
use Rattle.std.specs.Prelude.{◌≡◌, Bool, List, [], ◌++◌, map, ℕ, zero, suc, ◌+◌, ◌-◌, ◌*◌, ◌≤◌, ◌<◌, length, get_or, drop, replicate}
use Rattle.std.proofs.Math.Path.{refl}
use Rattle.std.proofs.Common.{sym, ap, ◌∙◌, zero-mul, suc-mul, add_comm, add-zero, arith, get_or-append-add, drop-drop}
use Rattle.std.proofs.Math.Bool.{true, false}
use Rattle.std.proofs.Math.ListN.{length-append, length-replicate, get_or-append, get_or-map}
use Rattle.std.proofs.lemmas.List.{length-map}
use Rattle.model.specs.Table.{room, Sized, no_port, no_copies, port_at, copies_at}
use Rattle.model.specs.Bytes.{Bytes, sum, unpack, unpacks}
use Rattle.model.specs.Layout.{shared_widths, port_widths, copied_widths, copies_widths, head_widths, shared_of, port_of, copies_of, port_place, copies_place, size, d_in, is_image}
use Rattle.layout.specs.Laws.Inside.{start-inside, port-inside, copied-inside, copies-inside}
use Rattle.layout.specs.Laws.Records.{length-unpacks}
use Rattle.records.specs.Records.{there, ports_in}
use Rattle.records.specs.Laws.Head.{image-tests}
use Rattle.records.specs.Laws.There.{there-inside}
use Rattle.image.specs.Image.{encode, held}
use Rattle.image.proofs.Laws.Again.{encode-held}

-- port k's records, from the first port's on
port-there : (k : ℕ) (bs : List ℕ) → drop (port_place k) bs ≡ drop (k * sum port_widths) (drop (port_place 0) bs)
unfolding port_place
port-there k bs =
    let e : sum head_widths + sum shared_widths + 0 * sum port_widths + k * sum port_widths ≡ sum head_widths + sum shared_widths + k * sum port_widths =
    rw (zero-mul (sum port_widths), add-zero (sum head_widths + sum shared_widths)) in
    sym (drop-drop (k * sum port_widths) (sum head_widths + sum shared_widths + 0 * sum port_widths) bs ∙ ap (λ (m : ℕ). drop m bs) e)

copies-there : (n k : ℕ) (bs : List ℕ) → drop (copies_place n k) bs ≡ drop (k * sum (copies_widths n)) (drop (copies_place n 0) bs)
unfolding copies_place
copies-there n k bs =
    let e : port_place n + sum (copied_widths n) + 0 * sum (copies_widths n) + k * sum (copies_widths n) ≡ port_place n + sum (copied_widths n) + k * sum (copies_widths n) =
    rw (zero-mul (sum (copies_widths n)), add-zero (port_place n + sum (copied_widths n))) in
    sym (drop-drop (k * sum (copies_widths n)) (port_place n + sum (copied_widths n) + 0 * sum (copies_widths n)) bs ∙ ap (λ (m : ℕ). drop m bs) e)

-- record j of n
unpacks-at : (ws : List ℕ) (n j : ℕ) (bs : List ℕ) → j < n → get_or (unpacks ws n bs) j [] ≡ unpack ws (drop (j * sum ws) bs)
unfolding unpacks
unpacks-at ws zero j bs h = absurd (omega (arith, h))
unpacks-at ws (suc n) zero bs h = rw (zero-mul (sum ws))
unpacks-at ws (suc n) (suc j) bs h =
    let e : sum ws + j * sum ws ≡ suc j * sum ws = add_comm (sum ws) (j * sum ws) ∙ sym (suc-mul j (sum ws)) in
    unpacks-at ws n j (drop (sum ws) bs) (omega (arith, h)) ∙ rw (drop-drop (j * sum ws) (sum ws) bs, e)

same-all : {A : Type 0} (m k : ℕ) (z : A) → get_or (replicate m z) k z ≡ z
same-all zero k z = refl
same-all (suc m) zero z = refl
same-all (suc m) (suc k) z = same-all m k z

-- the record at place j of a table that was read
module _ {A : Type 0} (f : List ℕ → A) (ws : List ℕ) (n m : ℕ) (bs : List ℕ) where
  long : length (map f (unpacks ws n bs)) ≡ n
  long = length-map (unpacks ws n bs) f ∙ length-unpacks ws n bs

  record-below : (j : ℕ) → j < n → get_or (map f (unpacks ws n bs) ++ replicate m (f [])) j (f []) ≡ f (unpack ws (drop (j * sum ws) bs))
  record-below j h =
      get_or-append (map f (unpacks ws n bs)) (replicate m (f [])) (f []) j (omega (arith, h, long))
      ∙ get_or-map f (unpacks ws n bs) j []
      ∙ ap f (unpacks-at ws n j bs h)

  record-above : (j : ℕ) → n ≤ j → get_or (map f (unpacks ws n bs) ++ replicate m (f [])) j (f []) ≡ f []
  record-above j h =
      let e : j ≡ length (map f (unpacks ws n bs)) + (j - n) = omega (arith, h, long) in
      ap (λ (k : ℕ). get_or (map f (unpacks ws n bs) ++ replicate m (f [])) k (f [])) e
      ∙ get_or-append-add (map f (unpacks ws n bs)) (replicate m (f [])) (j - n) (f [])
      ∙ same-all m (j - n) (f [])

module _ (d : ℕ) (bs : List ℕ) where
  pub port-below : (j : ℕ) → j < d → port_at (held d bs) j ≡ port_of (unpack port_widths (drop (port_place j) bs))
  unfolding held port_of
  port-below j h = record-below port_of port_widths d (room - d) (drop (port_place 0) bs) j h ∙ rw (port-there j bs)

  pub port-above : (j : ℕ) → d ≤ j → port_at (held d bs) j ≡ no_port
  unfolding held port_of
  port-above j h = record-above port_of port_widths d (room - d) (drop (port_place 0) bs) j h

  pub copies-below : (j : ℕ) → j < d → copies_at (held d bs) j ≡ copies_of (unpack (copies_widths d) (drop (copies_place d j) bs))
  unfolding held copies_of
  copies-below j h = record-below copies_of (copies_widths d) d (room - d) (drop (copies_place d 0) bs) j h ∙ rw (copies-there d j bs)

  pub copies-above : (j : ℕ) → d ≤ j → copies_at (held d bs) j ≡ no_copies
  unfolding held copies_of
  copies-above j h = record-above copies_of (copies_widths d) d (room - d) (drop (copies_place d 0) bs) j h

  pub d-held : (held d bs).shared.d ≡ d
  unfolding held shared_of
  d-held = refl

-- the image of d ports
module _ (bs : List ℕ) (d : ℕ) (e : d ≡ ports_in bs) (p : 0 < d) where
  pub is-image : (is_image bs ≡ true) × (d ≡ d_in bs)
  unfolding ports_in
  is-image = go (is_image bs) refl
    where
      go : (b : Bool) → is_image bs ≡ b → (is_image bs ≡ true) × (d ≡ d_in bs)
      go true q = (q, e ∙ rw q)
      go false q =
          let z : d ≡ 0 = e ∙ rw q in
          absurd (omega (arith, z, p))

  pub held_fits : d ≤ room
  held_fits = rw is-image.1 (image-tests bs is-image.0).fits

  pub held-long : length bs ≡ size d
  held-long = rw is-image.1 (image-tests bs is-image.0).long

  pub held-sized : Sized (held d bs)
  unfolding held
  held-sized =
      record {
        ports =
            length-append (map port_of (unpacks port_widths d (drop (port_place 0) bs))) (replicate (room - d) no_port)
            ∙ rw (length-map (unpacks port_widths d (drop (port_place 0) bs)) port_of, length-unpacks port_widths d (drop (port_place 0) bs), length-replicate (room - d) no_port)
            (omega (arith, held_fits));
        copies =
            length-append (map copies_of (unpacks (copies_widths d) d (drop (copies_place d 0) bs))) (replicate (room - d) no_copies)
            ∙ rw (length-map (unpacks (copies_widths d) d (drop (copies_place d 0) bs)) copies_of, length-unpacks (copies_widths d) d (drop (copies_place d 0) bs), length-replicate (room - d) no_copies)
            (omega (arith, held_fits));
      }

  pub held-encoded : Bytes bs → encode (held d bs) ≡ bs
  held-encoded f = rw is-image.1 (encode-held bs f is-image.0)

  -- its records as they are read where they stand
  pub port-held : (k : ℕ) → k < d → port_of (there port_widths (port_place k) bs) ≡ port_at (held d bs) k
  port-held k h =
      ap port_of (there-inside port_widths (port_place k) bs (omega (arith, held-long, port-inside d k h, copied-inside d)))
      ∙ sym (port-below d bs k h)

  pub copies-held : (k : ℕ) → k < d → copies_of (there (copies_widths d) (copies_place d k) bs) ≡ copies_at (held d bs) k
  copies-held k h =
      ap copies_of (there-inside (copies_widths d) (copies_place d k) bs (omega (arith, held-long, copies-inside d k h))) ∙ sym (copies-below d bs k h)

  shared-there : there shared_widths (sum head_widths) bs ≡ unpack shared_widths (drop (sum head_widths) bs)
  shared-there = there-inside shared_widths (sum head_widths) bs (omega (arith, held-long, start-inside d, copied-inside d))

  pub shared-held : shared_of d (there shared_widths (sum head_widths) bs) (there (copied_widths d) (port_place d) bs) ≡ (held d bs).shared
  unfolding held
  shared-held = rw (shared-there, there-inside (copied_widths d) (port_place d) bs (omega (arith, held-long, copied-inside d)))

  pub active-held : get_or (there shared_widths (sum head_widths) bs) 0 0 ≡ (held d bs).shared.active
  unfolding held shared_of
  active-held = rw shared-there

  pub word_held : (shared_of 0 (there shared_widths (sum head_widths) bs) []).word ≡ (held d bs).shared.word
  unfolding held shared_of
  word_held = rw shared-there
