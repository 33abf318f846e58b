-- The image of a table: its length, and that it is bytes.
use Rattle.std.specs.Prelude.{◌≡◌, List, map, ℕ, ◌+◌, ◌*◌, ◌≤◌, ◌<◌, length, take}
use Rattle.std.proofs.Common.{◌∙◌, arith, le-leb, length-append, length-take-le}
use Rattle.std.proofs.lemmas.Bool.{lt-leb}
use Rattle.std.proofs.lemmas.List.{length-map}
use Rattle.model.specs.declared.Table.{Table}
use Rattle.model.specs.Table.{room, Sized}
use Rattle.model.specs.Bytes.{Bytes, sum, pack}
use Rattle.model.specs.Layout.{shared_widths, port_widths, set_width, copied_widths, copies_widths, head_widths, shared_values, port_values, copied_values, copies_values, head_values, port_place, copies_place, size}
use Rattle.layout.specs.Laws.Digits.{bytes-append}
use Rattle.layout.specs.Laws.Records.{packs, length-pack, length-packs, pack-bytes, packs_bytes}
use Rattle.image.specs.Image.{encode}

-- the records of the first n of a list
pub rows_long : {A : Type 0} (f : A → List ℕ) (ws : List ℕ) (l : List A) (n : ℕ) → n ≤ length l → length (packs ws (map f (take n l))) ≡ n * sum ws
rows_long f ws l n h = length-packs ws (map f (take n l)) ∙ rw (length-map (take n l) f, length-take-le n l h)

pub length-encode : (t : Table) → Sized t → t.shared.d ≤ room → length (encode t) ≡ size t.shared.d
unfolding encode size port_place copies_place sum
length-encode t s h =
    let d = t.shared.d in
    let p = rows_long port_values port_widths t.ports d (omega (arith, s.ports, h)) in
    let c = rows_long copies_values (copies_widths d) t.copies d (omega (arith, s.copies, h)) in
    simp (length-append, length-pack, p, c) (omega arith)

-- that length as a number, with copy sets of two bytes and of eight
module _ (d : ℕ) where
  pub size-narrow : d ≤ 16 → size d ≡ 30 + 22 * d
  unfolding sum head_widths shared_widths port_widths set_width copied_widths copies_widths port_place copies_place size
  size-narrow h = rw (le-leb d 16 h) (omega arith)

  pub size-wide : 16 < d → size d ≡ 42 + 40 * d
  unfolding sum head_widths shared_widths port_widths set_width copied_widths copies_widths port_place copies_place size
  size-wide h = rw (lt-leb d 16 h) (omega arith)

pub encode-bytes : (t : Table) → Bytes (encode t)
unfolding encode
encode-bytes t =
    let h = pack-bytes head_widths (head_values t.shared.d) in
    let s = pack-bytes shared_widths (shared_values t.shared) in
    let p = packs_bytes port_widths (map port_values (take t.shared.d t.ports)) in
    let c = pack-bytes (copied_widths t.shared.d) (copied_values t.shared) in
    let k = packs_bytes (copies_widths t.shared.d) (map copies_values (take t.shared.d t.copies)) in
    let ck = bytes-append (pack (copied_widths t.shared.d) (copied_values t.shared)) _ c k in
    let pck = bytes-append (packs port_widths (map port_values (take t.shared.d t.ports))) _ p ck in
    let spck = bytes-append (pack shared_widths (shared_values t.shared)) _ s pck in
    bytes-append (pack head_widths (head_values t.shared.d)) _ h spck
