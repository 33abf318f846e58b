-- What the promises of the functions say where the answer is DONE.
use Rattle.std.specs.Prelude.{◌≡◌, refl, true, Result, Ok, List, ◌++◌, ℕ, ◌+◌, ◌≤◌, length, take, drop}
use Rattle.std.specs.Result.{result_unwrap_or}
use Rattle.std.proofs.Common.{ap, ◌∙◌, arith, take_at, drop_at}
use Rattle.std.proofs.lemmas.List.Edits.{sets-eq}
use Rattle.model.specs.declared.Table.{Table}
use Rattle.model.specs.declared.Answer.{Answer}
use Rattle.model.specs.declared.Answer.TheVariants.{Done}
use Rattle.model.specs.Table.{Sized}
use Rattle.model.specs.Good.{good}
use Rattle.model.specs.Event.{number_of}
use Rattle.model.proofs.Laws.Rules.{shared-rules}
use Rattle.model.specs.Bytes.{Bytes}
use Rattle.model.specs.Layout.{size, d_in, is_image}
use Rattle.records.specs.Records.{ports_in}
use Rattle.records.specs.Laws.Head.{image-tests}
use Rattle.image.specs.Image.{encode, held, decode, write_answer, written, room_after}
use Rattle.image.proofs.Laws.Again.{encode-held}
use Rattle.image.proofs.Laws.Held.{held-sized}
use Rattle.image.proofs.Laws.Encoded.{length-encode}
use Rattle.image.proofs.Laws.Reading.{accepted-image}
use Rattle.image.proofs.Laws.Writing.{answer-done}

-- a good table, and room enough: what is given, and what stands in the room then
pub write_done : (t : Table) (out next : List ℕ) (w : Result ℕ Answer) → Sized t → good t ≡ true → length (encode t) ≤ length out
    → w ≡ written (write_answer t (length out)) t → next ≡ room_after (write_answer t (length out)) t out
    → (w ≡ Ok (length (encode t)))
    × (take (result_unwrap_or w 0) next ≡ encode t)
    × (drop (result_unwrap_or w 0) next ≡ drop (result_unwrap_or w 0) out)
unfolding written room_after
write_done t out next w s g h p q =
    let l : length (encode t) ≡ size t.shared.d = length-encode t s (shared-rules t g).fits in
    let e = answer-done t (length out) g (omega (arith, l, h)) in
    let r : w ≡ Ok (length (encode t)) = p ∙ rw (e, l) in
    let z : 0 + length (encode t) ≡ length (encode t) = omega arith in
    let m : next ≡ encode t ++ drop (length (encode t)) out = q ∙ rw e (rw z at (sets-eq (encode t) out 0 (omega (arith, h)))) in (
      r,
      rw (r, m) (take_at (encode t) (drop (length (encode t)) out) (length (encode t)) refl),
      rw (r, m) (drop_at (encode t) (drop (length (encode t)) out) (length (encode t)) refl),
    )

-- an image that is accepted
module _ (bs : List ℕ) (h : (decode bs).answer ≡ Done) where
  accepted : (is_image bs ≡ true) × (good (held (d_in bs) bs) ≡ true)
  accepted = accepted-image bs (ap number_of h)

  its-table : (decode bs).table ≡ held (d_in bs) bs
  unfolding decode
  its-table = rw (accepted.0, accepted.1)

  pub accepted-good : good (decode bs).table ≡ true
  accepted-good = rw its-table accepted.1

  pub accepted-sized : Sized (decode bs).table
  unfolding ports_in
  accepted-sized = rw its-table (held-sized bs (d_in bs) (rw accepted.0) (image-tests bs accepted.0).some)

  pub accepted-encoded : Bytes bs → encode (decode bs).table ≡ bs
  accepted-encoded f = ap encode its-table ∙ encode-held bs f accepted.0
