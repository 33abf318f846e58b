-- Calls from a fresh image: its bytes after any calls are those of the table that as many events reach.
use Rattle.std.specs.Prelude.{◌≡◌, Bool, ℕ, ◌+◌, ◌*◌, ◌≤◌, ◌<◌, leb, take, drop, Ok}
use Rattle.std.proofs.Math.Path.{refl, sym, ap}
use Rattle.std.proofs.Common.{◌∙◌, drop-drop}
use Rattle.std.proofs.Math.Bool.{true, false, or-false, and-eq-true_iff}
use mathlib.Core.List.{List, [], ◌∷◌, ◌++◌}
use native.Mathlib.Omega.{arith}
use Rattle.std.proofs.Math.Dec.{eqb}
use borrow.Author.Tests.{eqb-true, le-leb}
use Rattle.std.proofs.Math.ListN.{length, get_or}
use Rattle.model.specs.declared.Port.{Port}
use Rattle.model.specs.declared.Table.{Table}
use Rattle.model.specs.declared.Made.{Made}
use Rattle.model.specs.Table.{room, size_good, Sized, port_at, fresh_table}
use Rattle.model.specs.Points.{one_of}
use Rattle.model.specs.Good.{good}
use Rattle.model.specs.Event.{number_of, answer_code, stepping, crash}
use Rattle.model.specs.Run.{Order, order, answered, after, ran, reached, done, steps_at, stepless}
use Rattle.model.proofs.Laws.Tests.{conjunct}
use Rattle.model.proofs.Laws.After.{fresh-sized}
use Rattle.model.proofs.Laws.Kept.{good-fresh}
use Rattle.model.proofs.Laws.Rules.{shared-rules}
use Rattle.model.proofs.Laws.Reached.{reached-sized, reached-d}
use Rattle.model.proofs.Statements.{always-good, one_inside, keeps, returns}
use Rattle.model.specs.Bytes.{value, sum, unpack}
use Rattle.model.specs.Layout.{head_widths, shared_widths, port_widths, port_of, port_place, size}
use Rattle.layout.specs.Laws.Inside.{port-inside, copied-inside}
use Rattle.records.specs.Laws.Rows.{value-one}
use Rattle.image.specs.Image.{encode, decode, write_answer, written, room_after}
use Rattle.image.proofs.Laws.Promises.{write_done}
use Rattle.image.proofs.Laws.Encoded.{length-encode}
use Rattle.image.proofs.Laws.Held.{port-below}
use Rattle.image.proofs.Laws.RoundTrip.{held_back, decode-encode}
use Rattle.cabi.specs.Calls.{fresh_call, fresh_room, check_call, calls_image}
use Rattle.cabi.specs.Laws.Calling.{calls-run}
use Rattle.cabi.specs.Laws.Fresh.{fresh-left, fresh-written}

-- point and STATUS of port k are the first two bytes of its record
module _ (t : Table) (z : Sized t) (g : good t ≡ true) (k : ℕ) (h : k < t.shared.d) where
  long : port_place k + sum port_widths ≤ length (encode t)
  long = rw (length-encode t z (shared-rules t g).fits) (omega (arith, port-inside t.shared.d k h, copied-inside t.shared.d))

  in_bytes : port_at t k ≡ port_of (unpack port_widths (drop (port_place k) (encode t)))
  in_bytes = ap (λ (u : Table). port_at u k) (sym (held_back t z g)) ∙ port-below t.shared.d (encode t) k h

  pub point-byte : get_or (encode t) (26 + 16 * k) 0 ≡ (port_at t k).point
  unfolding sum head_widths shared_widths port_widths port_place port_of unpack
  point-byte =
      let at : 26 + 16 * k ≡ port_place k = omega arith in
      ap (λ (n : ℕ). get_or (encode t) n 0) at
      ∙ sym (value-one (encode t) (port_place k) (omega (arith, long)))
      ∙ sym (ap (λ (p : Port). p.point) in_bytes)

  pub status-byte : get_or (encode t) (27 + 16 * k) 0 ≡ (port_at t k).status
  unfolding sum head_widths shared_widths port_widths port_place port_of unpack
  status-byte =
      let at : 27 + 16 * k ≡ port_place k + 1 = omega arith in
      ap (λ (n : ℕ). get_or (encode t) n 0) at
      ∙ sym (value-one (encode t) (port_place k + 1) (omega (arith, long)))
      ∙ ap (λ (l : List ℕ). value (take 1 l)) (sym (drop-drop 1 (port_place k) (encode t)))
      ∙ sym (ap (λ (p : Port). p.status) in_bytes)

-- orders one after the other
ran_append : (t : Table) (os ps : List Order) → ran t (os ++ ps) ≡ ran (ran t os) ps
unfolding ran
ran_append t [] ps = refl
ran_append t (o ∷ os) ps = ran_append (after t o) os ps

-- for D from 1 to the room, over any calls from the fresh image
module _ (d : ℕ) (some : 1 ≤ d) (fits : d ≤ room) where
  abbrev image_after : List Order → List ℕ
  image_after os = calls_image (encode (fresh_table d)) os

  image-reached : (os : List Order) → image_after os ≡ encode (reached d os)
  image-reached os = (calls-run (fresh_table d) os (fresh-sized d) (good-fresh d some fits)).1

  module _ (os : List Order) (k : ℕ) (h : k < d) where
    below : k < (reached d os).shared.d
    below = rw (reached-d d os) h

    pub point-after : get_or (image_after os) (26 + 16 * k) 0 ≡ (port_at (reached d os) k).point
    point-after = ap (λ (bs : List ℕ). get_or bs (26 + 16 * k) 0) (image-reached os) ∙ point-byte (reached d os) (reached-sized d os) (always-good d some fits os) k below

    pub status-after : get_or (image_after os) (27 + 16 * k) 0 ≡ (port_at (reached d os) k).status
    status-after = ap (λ (bs : List ℕ). get_or bs (27 + 16 * k) 0) (image-reached os) ∙ status-byte (reached d os) (reached-sized d os) (always-good d some fits os) k below

  pub fresh-image : (out : List ℕ) → size d ≤ length out
      → (fresh_call d (length out) ≡ 256 * size d)
      × (take (size d) (fresh_room d out) ≡ encode (fresh_table d))
      × (drop (size d) (fresh_room d out) ≡ drop (size d) out)
  unfolding size_good fresh_table
  fresh-image out h =
      let t = fresh_table d in
      let w = written (write_answer t (length out)) t in
      let next = room_after (write_answer t (length out)) t out in
      let long : length (encode t) ≡ size d = length-encode t (fresh-sized d) fits in
      let sized : size_good d ≡ true = (and-eq-true_iff (leb 1 d) (leb d room)).1 (le-leb 1 d some, le-leb d room fits) in
      let left = fresh-left d out sized next refl in
      let b = write_done t out next w (fresh-sized d) (good-fresh d some fits) (omega (arith, long, h)) refl refl in
      let n : w ≡ Ok (size d) = b.0 ∙ ap Ok long in (
        sym (fresh-written d out sized (size d) (sym n)),
        ap (take (size d)) (sym left) ∙ (rw n at b.1),
        ap (drop (size d)) (sym left) ∙ (rw n at b.2),
      )

  pub accepted-reached : (os : List Order) → check_call (image_after os) ≡ 0
  unfolding answer_code check_call
  accepted-reached os =
      ap (λ (bs : List ℕ). answer_code (decode bs).answer) (image-reached os)
      ∙ ap (λ (m : Made). answer_code m.answer) (decode-encode (reached d os) (reached-sized d os) (always-good d some fits os))

  pub inside-bytes : (os : List Order) (j k : ℕ) → j < d → k < d → get_or (image_after os) (26 + 16 * j) 0 ≡ 11 → get_or (image_after os) (26 + 16 * k) 0 ≡ 11 → j ≡ k
  inside-bytes os j k h l p q = one_inside d some fits os j k (sym (point-after os j h) ∙ p) (sym (point-after os k l) ∙ q)

  another : (os : List Order) (k : ℕ) (o : Order) → k < d → (o.port ≡ k → o.event ≡ stepping → get_or (image_after os) (26 + 16 * k) 0 ≡ 13 → ⊥)
      → steps_at k (13 ∷ []) (reached d os) o ≡ false
  unfolding steps_at done one_of
  another os k o h f = go (steps_at k (13 ∷ []) (reached d os) o) refl
    where
      go : (b : Bool) → steps_at k (13 ∷ []) (reached d os) o ≡ b → steps_at k (13 ∷ []) (reached d os) o ≡ false
      go false e = e
      go true e =
          let p = (and-eq-true_iff (done k stepping (reached d os) o) (one_of (port_at (reached d os) k).point (13 ∷ []))).0 e in
          let q = conjunct (eqb o.port k) (eqb o.event stepping ∷ eqb (number_of (answered (reached d os) o).answer) 0 ∷ []) p.0 in
          absurd (f (eqb-true _ _ (q 0)) (eqb-true _ _ (q 1)) (point-after os k h ∙ eqb-true _ _ (sym (or-false (eqb (port_at (reached d os) k).point 13)) ∙ p.1)))

  pub critical-bytes : (os : List Order) (k : ℕ) (o : Order) → k < d → get_or (image_after os) (27 + 16 * k) 0 ≡ 1
      → (o.port ≡ k → o.event ≡ stepping → get_or (image_after os) (26 + 16 * k) 0 ≡ 13 → ⊥)
      → get_or (image_after (os ++ (o ∷ []))) (27 + 16 * k) 0 ≡ 1
  unfolding ran
  critical-bytes os k o h c f =
      status-after (os ++ (o ∷ [])) k h
      ∙ ap (λ (t : Table). (port_at t k).status) (ran_append (fresh_table d) os (o ∷ []))
      ∙ keeps d some fits os k o (sym (status-after os k h) ∙ c) (another os k o h f)

  pub back-bytes : (os : List Order) (k : ℕ) (more : List Order) → k < d → get_or (image_after os) (27 + 16 * k) 0 ≡ 1 → stepless k more ≡ true
      → get_or (image_after (os ++ (order k crash ∷ (more ++ (order k stepping ∷ []))))) (26 + 16 * k) 0 ≡ 11
  unfolding ran
  back-bytes os k more h c f =
      point-after (os ++ (order k crash ∷ (more ++ (order k stepping ∷ [])))) k h
      ∙ ap (λ (t : Table). (port_at t k).point)
      (ran_append (fresh_table d) os (order k crash ∷ (more ++ (order k stepping ∷ [])))
      ∙ ran_append (after (reached d os) (order k crash)) more (order k stepping ∷ []))
      ∙ returns d some fits os k more (sym (status-after os k h) ∙ c) f
