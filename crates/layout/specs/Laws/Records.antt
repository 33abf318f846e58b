-- Laws of records of any widths: what is packed is unpacked, and what is unpacked is packed again.
use Rattle.std.specs.Prelude.{◌≡◌, refl, ℕ, zero, suc, ◌+◌, ◌*◌, ◌%◌, ◌^◌, ◌≤◌, ◌<◌, length, get_or, take, drop}
use Rattle.std.proofs.Common.{sym, ap, ◌∙◌, zero-mul, suc-mul, add_comm, add-one, arith, length-append, length-drop, take_at, drop_at, take-add, length-take-le, get_or-drop, drop-drop}
use mathlib.Core.List.{List, [], ◌∷◌, ◌++◌, map, flat_map, append_assoc, append-nil}
use Rattle.std.proofs.lemmas.List.{length-map}
use Rattle.model.specs.Bytes.{Bytes, little, value, sum, pack, unpack, unpacks}
use Rattle.layout.specs.Laws.Digits.{bytes-nil, bytes-append, bytes_drop, bytes_take, length-little, little-bytes, value-little, value-cut, little-value, value-fits}

-- there is a value for every width, and it fits
abbrev pub Fits : List ℕ → List ℕ → Type 0
Fits [] [] = Prim.Unit {0}
Fits [] (v ∷ vs) = ⊥
Fits (w ∷ ws) [] = ⊥
Fits (w ∷ ws) (v ∷ vs) = (v < 256 ^ w) × Fits ws vs

pub length-pack : (ws vs : List ℕ) → length (pack ws vs) ≡ sum ws
unfolding pack sum
length-pack [] vs = refl
length-pack (w ∷ ws) vs = rw (length-append (little w (get_or vs 0 0)) (pack ws (drop 1 vs)), length-little w (get_or vs 0 0), length-pack ws (drop 1 vs))

pub pack-bytes : (ws vs : List ℕ) → Bytes (pack ws vs)
unfolding pack
pack-bytes [] vs = bytes-nil
pack-bytes (w ∷ ws) vs = bytes-append (little w (get_or vs 0 0)) (pack ws (drop 1 vs)) (little-bytes w (get_or vs 0 0)) (pack-bytes ws (drop 1 vs))

pub length-unpack : (ws bs : List ℕ) → length (unpack ws bs) ≡ length ws
unfolding unpack
length-unpack [] bs = refl
length-unpack (w ∷ ws) bs = ap suc (length-unpack ws (drop w bs))

pub unpack-pack : (ws vs rest : List ℕ) → Fits ws vs → unpack ws (pack ws vs ++ rest) ≡ vs
unfolding pack unpack
unpack-pack [] [] rest f = refl
unpack-pack [] (v ∷ vs) rest f = absurd f
unpack-pack (w ∷ ws) [] rest f = absurd f
unpack-pack (w ∷ ws) (v ∷ vs) rest f =
    rw (
      append_assoc (little w v) (pack ws vs) rest,
      take_at (little w v) (pack ws vs ++ rest) w (length-little w v),
      drop_at (little w v) (pack ws vs ++ rest) w (length-little w v),
      value-little w v f.0,
      unpack-pack ws vs rest f.1,
    )

pub pack-unpack : (ws bs : List ℕ) → Bytes bs → sum ws ≤ length bs → pack ws (unpack ws bs) ≡ take (sum ws) bs
unfolding pack unpack sum
pack-unpack [] bs f h = refl
pack-unpack (w ∷ ws) bs f h =
    let e : little w (value (take w bs)) ≡ take w bs =
    rw (length-take-le w bs (omega arith)) at (little-value (take w bs) (bytes_take w bs f)) in
    rw (e, pack-unpack ws (drop w bs) (bytes_drop w bs f) (rw (length-drop w bs) (omega arith))) (sym (take-add w (sum ws) bs))

-- every value of a record fits its width
pub unpack-fits : (ws bs : List ℕ) → Bytes bs → Fits ws (unpack ws bs)
unfolding unpack
unpack-fits [] bs f = tt
unpack-fits (w ∷ ws) bs f = (value-fits w bs f, unpack-fits ws (drop w bs) (bytes_drop w bs f))

-- values that fit their widths are kept by them
pub unpack-packed : (ws vs : List ℕ) → Fits ws vs → unpack ws (pack ws vs) ≡ vs
unpack-packed ws vs f = ap (unpack ws) (sym (append-nil (pack ws vs))) ∙ unpack-pack ws vs [] f

-- the values from i on, each cut to its width: what is left of them in their widths
abbrev pub cut : ℕ → List ℕ → List ℕ → List ℕ
cut i [] vs = []
cut i (w ∷ ws) vs = (get_or vs i 0 % 256 ^ w) ∷ cut (suc i) ws vs

pub packed-cut : (i : ℕ) (ws vs : List ℕ) → unpack ws (pack ws (drop i vs)) ≡ cut i ws vs
unfolding pack unpack
packed-cut i [] vs = refl
packed-cut i (w ∷ ws) vs =
    let x = get_or (drop i vs) 0 0 in
    let rest = pack ws (drop 1 (drop i vs)) in
    let z : i + 0 ≡ i = omega arith in
    let g : get_or (drop i vs) 0 0 ≡ get_or vs i 0 = rw z at (get_or-drop i vs 0 0) in
    let r : drop 1 (drop i vs) ≡ drop (suc i) vs = rw (add-one i) at (drop-drop 1 i vs) in
    rw (
      take_at (little w x) rest w (length-little w x),
      drop_at (little w x) rest w (length-little w x),
      value-cut w x,
      g,
      r,
      packed-cut (suc i) ws vs,
    )

-- many records, one straight after the other
abbrev pub packs : List ℕ → List (List ℕ) → List ℕ
packs ws vss = flat_map (pack ws) vss

abbrev pub AllFit : List ℕ → List (List ℕ) → Type 0
AllFit ws [] = Prim.Unit {0}
AllFit ws (vs ∷ vss) = Fits ws vs × AllFit ws vss

pub length-packs : (ws : List ℕ) (vss : List (List ℕ)) → length (packs ws vss) ≡ length vss * sum ws
unfolding flat_map
length-packs ws [] = sym (zero-mul (sum ws))
length-packs ws (vs ∷ vss) =
    length-append (pack ws vs) (packs ws vss)
    ∙ rw (length-pack ws vs, length-packs ws vss, suc-mul (length vss) (sum ws)) (add_comm (sum ws) _)

pub rows_long : {A : Type 0} (f : A → List ℕ) (ws : List ℕ) (l : List A) (d : ℕ) → d ≤ length l → length (packs ws (map f (take d l))) ≡ d * sum ws
rows_long f ws l d h = length-packs ws (map f (take d l)) ∙ rw (length-map (take d l) f, length-take-le d l h)

pub packs_bytes : (ws : List ℕ) (vss : List (List ℕ)) → Bytes (packs ws vss)
unfolding flat_map
packs_bytes ws [] = bytes-nil
packs_bytes ws (vs ∷ vss) = bytes-append (pack ws vs) (packs ws vss) (pack-bytes ws vs) (packs_bytes ws vss)

pub unpacks-packs : (ws : List ℕ) (vss : List (List ℕ)) (rest : List ℕ) → AllFit ws vss → unpacks ws (length vss) (packs ws vss ++ rest) ≡ vss
unfolding flat_map unpacks
unpacks-packs ws [] rest f = refl
unpacks-packs ws (vs ∷ vss) rest f =
    rw (
      append_assoc (pack ws vs) (packs ws vss) rest,
      unpack-pack ws vs (packs ws vss ++ rest) f.0,
      drop_at (pack ws vs) (packs ws vss ++ rest) (sum ws) (length-pack ws vs),
      unpacks-packs ws vss rest f.1,
    )

pub packs-unpacks : (ws : List ℕ) (n : ℕ) (bs : List ℕ) → Bytes bs → n * sum ws ≤ length bs → packs ws (unpacks ws n bs) ≡ take (n * sum ws) bs
unfolding flat_map unpacks
packs-unpacks ws zero bs f h = rw (zero-mul (sum ws))
packs-unpacks ws (suc n) bs f h =
    let e : suc n * sum ws ≡ sum ws + n * sum ws = suc-mul n (sum ws) ∙ add_comm (n * sum ws) (sum ws) in
    let k : sum ws + n * sum ws ≤ length bs = rw e at h in
    rw (
      e,
      pack-unpack ws bs f (omega arith),
      packs-unpacks ws n (drop (sum ws) bs) (bytes_drop (sum ws) bs f) (rw (length-drop (sum ws) bs) (omega arith)),
    )
    (sym (take-add (sum ws) (n * sum ws) bs))

pub length-unpacks : (ws : List ℕ) (n : ℕ) (bs : List ℕ) → length (unpacks ws n bs) ≡ n
unfolding unpacks
length-unpacks ws zero bs = refl
length-unpacks ws (suc n) bs = ap suc (length-unpacks ws n (drop (sum ws) bs))

-- one record more
pub unpacks-more : (ws : List ℕ) (n : ℕ) (bs : List ℕ) → unpacks ws (suc n) bs ≡ unpacks ws n bs ++ (unpack ws (drop (n * sum ws) bs) ∷ [])
unfolding unpacks
unpacks-more ws zero bs = rw (zero-mul (sum ws))
unpacks-more ws (suc n) bs =
    let e : sum ws + n * sum ws ≡ suc n * sum ws = add_comm (sum ws) (n * sum ws) ∙ sym (suc-mul n (sum ws)) in
    ap (λ (l : List (List ℕ)). unpack ws bs ∷ l)
    (unpacks-more ws n (drop (sum ws) bs)
    ∙ rw (drop-drop (n * sum ws) (sum ws) bs, e))
