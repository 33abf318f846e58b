-- Records as the code puts and gets them, field by field and byte by byte: one turn of each loop.
use Rattle.std.specs.Prelude.{◌≡◌, Bool, true, ◌&&◌, ℕ, suc, ◌+◌, ◌-◌, ◌*◌, ◌/◌, ◌%◌, ◌^◌, ◌≤◌, ◌<◌, eqb, nat_eq, length, get_or, set, take, drop}
use Rattle.std.specs.Cmp.Lexicographic.{pointwise}
use Rattle.std.specs.List.{push}
use Rattle.std.specs.Int.{w16, w64, to_le_bytes, from_le_bytes}
use Rattle.std.proofs.Math.Path.{refl, sym, ap}
use Rattle.std.proofs.Common.{◌∙◌, lt_of_lt_of_le, pow-suc, mul_assoc, mul_comm, add-zero, add-one, arith, length-append, length-drop, length-take-le, length-set, drop-cons, drop-drop, drop_of_length-le}
use mathlib.Core.List.{List, [], ◌∷◌, ◌++◌, foldr, zip_with, append_assoc}
use Rattle.std.proofs.Math.Nat.{pow-le-pow_right, one-le-pow, mul-le-mul_right, mul-add}
use Rattle.std.proofs.lemmas.List.Edits.{sets, sets-eq}
use Rattle.std.proofs.Math.Seq.{length-sets}
use Rattle.model.specs.Bytes.{Bytes, little, value, sum, pack, unpack}
use Rattle.layout.specs.Laws.Digits.{length-little, value-below, value-from}

-- stores one after the other
pub sets-append : (l : List ℕ) (i : ℕ) (xs ys : List ℕ) → sets l i (xs ++ ys) ≡ sets (sets l i xs) (i + length xs) ys
sets-append l i [] ys = rw (add-zero i)
sets-append l i (x ∷ xs) ys =
    let e : suc i + length xs ≡ i + suc (length xs) = omega arith in
    sets-append (set l i x) (suc i) xs ys ∙ rw e

-- one byte put: what is still to put is what is to be put of the whole field
pub put-turn : (room l : List ℕ) (w x j : ℕ) → j < w → sets room j (little (w - j) x) ≡ l → sets (set room j (x % 256)) (j + 1) (little (w - (j + 1)) (x / 256)) ≡ l
unfolding little
put-turn room l w x j h e =
    let a : w - j ≡ suc (w - (j + 1)) = omega arith in
    ap (λ (k : ℕ). sets (set room j (x % 256)) k (little (w - (j + 1)) (x / 256))) (add-one j) ∙ (rw a at e)

-- two bytes, and eight, as the library gives them
pub little-two : (v : ℕ) → to_le_bytes w16 (v % 65536) ≡ little 2 v
unfolding little
little-two v = let a : v % 65536 % 256 ≡ v % 256 = omega arith in let b : v % 65536 / 256 % 256 ≡ v / 256 % 256 = omega arith in rw (a, b)

pub little-eight : (v : ℕ) → to_le_bytes w64 v ≡ little 8 v
unfolding little
little-eight v =
    let e2 : v / 256 / 256 ≡ v / 65536 = omega arith in
    let e3 : v / 65536 / 256 ≡ v / 16777216 = omega arith in
    let e4 : v / 16777216 / 256 ≡ v / 4294967296 = omega arith in
    let e5 : v / 4294967296 / 256 ≡ v / 1099511627776 = omega arith in
    let e6 : v / 1099511627776 / 256 ≡ v / 281474976710656 = omega arith in
    let e7 : v / 281474976710656 / 256 ≡ v / 72057594037927936 = omega arith in
    rw (e2, e3, e4, e5, e6, e7)

-- the value of one list after the other
pub value-append : (xs ys : List ℕ) → value (xs ++ ys) ≡ value xs + 256 ^ length xs * value ys
unfolding value
value-append [] ys = omega arith
value-append (x ∷ xs) ys =
    let e : 256 * (256 ^ length xs * value ys) ≡ 256 ^ suc (length xs) * value ys =
    sym (mul_assoc 256 (256 ^ length xs) (value ys)) ∙ ap (λ (n : ℕ). n * value ys) (mul_comm 256 (256 ^ length xs) ∙ sym (pow-suc 256 (length xs))) in
    rw (value-append xs ys) (omega (arith, e))

-- one byte got, the highest first: x stands for the bytes after the others
pub get-turn : (others : List ℕ) (b x n : ℕ) → value (push others b) + 256 ^ length (push others b) * x ≡ n → value others + 256 ^ length others * (b + 256 * x) ≡ n
unfolding value
get-turn others b x n e =
    let p : 256 ^ suc (length others) ≡ 256 ^ length others * 256 = pow-suc 256 (length others) in
    let l : length (push others b) ≡ suc (length others) = length-append others (b ∷ []) ∙ add-one (length others) in
    let q : 256 ^ length others * (b + 256 * x) ≡ 256 ^ length others * b + 256 ^ length others * 256 * x =
    mul-add (256 ^ length others) b (256 * x) ∙ ap (λ (m : ℕ). 256 ^ length others * b + m) (sym (mul_assoc (256 ^ length others) 256 x)) in
    let z : value (b ∷ []) ≡ b = omega arith in
    let f : value (push others b) ≡ value others + 256 ^ length others * b =
    value-append others (b ∷ []) ∙ ap (λ (m : ℕ). value others + 256 ^ length others * m) z in
    let d : value others + 256 ^ length others * b + 256 ^ length others * 256 * x ≡ n = rw (f, l, p) at e in
    omega (arith, q, d)

pub get-fits : (others : List ℕ) (y n m : ℕ) → value others + 256 ^ length others * y ≡ n → n < m → y < m
get-fits others y n m e h =
    let one : 1 * y ≤ 256 ^ length others * y = mul-le-mul_right y (one-le-pow (length others) 256 (omega arith)) in
    omega (arith, one, e, h)

pub field-below : (bs : List ℕ) → Bytes bs → length bs ≤ 8 → value bs < 18446744073709551616
field-below bs f h = lt_of_lt_of_le (value-below bs f) (pow-le-pow_right {n = 256} (omega arith) {i = length bs} {j = 8} h)

-- no byte is left
pub get-last : (others : List ℕ) (x n : ℕ) → length others ≡ 0 → value others + 256 ^ length others * x ≡ n → x ≡ n
unfolding value
get-last [] x n h e = omega (arith, e)
get-last (b ∷ others) x n h e = absurd (omega (arith, h))

-- two bytes, and eight, as the library reads them
no-more : (bs : List ℕ) (n : ℕ) → length bs ≡ n → value (drop n bs) ≡ 0
unfolding value
no-more bs n h = ap value (drop_of_length-le bs (omega (arith, h)))

pub value-two : (bs : List ℕ) → length bs ≡ 2 → from_le_bytes w16 bs ≡ value bs
value-two bs h = omega (arith, value-from bs 0 (omega (arith, h)), value-from bs 1 (omega (arith, h)), no-more bs 2 h)

pub value-eight : (bs : List ℕ) → length bs ≡ 8 → from_le_bytes w64 bs ≡ value bs
value-eight bs h =
    omega (
      arith,
      value-from bs 0 (omega (arith, h)),
      value-from bs 1 (omega (arith, h)),
      value-from bs 2 (omega (arith, h)),
      value-from bs 3 (omega (arith, h)),
      value-from bs 4 (omega (arith, h)),
      value-from bs 5 (omega (arith, h)),
      value-from bs 6 (omega (arith, h)),
      value-from bs 7 (omega (arith, h)),
      no-more bs 8 h,
    )

-- one byte
pub value-one : (bs : List ℕ) (at : ℕ) → at < length bs → value (take 1 (drop at bs)) ≡ get_or bs at 0
unfolding value
value-one bs at h = rw (drop-cons bs at 0 h) (omega arith)

-- one field of a record: what is still to put is what is to be put of the whole record
pub record Putting (ws vs : List ℕ) (i : ℕ) (room done : List ℕ) : Type 0 where
  pub even : length ws ≡ length vs
  pub fits : i + sum ws ≤ length room
  pub text : sets room i (pack ws vs) ≡ done

pub put-field : (w v : ℕ) (ws vs : List ℕ) (i : ℕ) (room field done : List ℕ) → Putting (w ∷ ws) (v ∷ vs) i room done → field ≡ little (length (take (i + w - i) (drop i room))) v
    → Putting ws vs (i + w) (take i room ++ (field ++ drop (i + w - i) (drop i room))) done
unfolding pack sum
put-field w v ws vs i room field done r e =
    let n : i + w - i ≡ w = omega arith in
    let m : length (take (i + w - i) (drop i room)) ≡ w = rw n (length-take-le w (drop i room) (rw (length-drop i room) (omega (arith, r.fits)))) in
    let f : field ≡ little w v = rw m at e in
    let l = length-little w v in
    let s : take i room ++ (little w v ++ drop w (drop i room)) ≡ sets room i (little w v) =
    ap (λ (k : List ℕ). take i room ++ (little w v ++ k)) (drop-drop w i room ∙ ap (λ (k : ℕ). drop (i + k) room) (sym l))
    ∙ sym (append_assoc (take i room) (little w v) (drop (i + length (little w v)) room))
    ∙ sym (sets-eq (little w v) room i (rw l (omega (arith, r.fits)))) in
    rw (n, f, s)
    record {
      even = omega (arith, r.even);
      fits = rw (length-sets room i (little w v)) (omega (arith, r.fits));
      text = ap (λ (k : ℕ). sets (sets room i (little w v)) (i + k) (pack ws vs)) (sym l) ∙ sym (sets-append room i (little w v) (pack ws vs)) ∙ r.text;
    }

pub put-end : (ws vs : List ℕ) (i : ℕ) (room done : List ℕ) → length ws ≡ 0 → Putting ws vs i room done → room ≡ done
unfolding pack
put-end [] vs i room done h r = r.text
put-end (w ∷ ws) vs i room done h r = absurd (omega (arith, h))

-- one field of a record got
pub record Getting (ws : List ℕ) (i : ℕ) (vs rest done : List ℕ) : Type 0 where
  pub long : length vs ≡ length ws
  pub fits : sum (drop i ws) ≤ length rest
  pub text : sets vs i (unpack (drop i ws) rest) ≡ done

pub field_fits : (ws : List ℕ) (i : ℕ) → i < length ws → sum (drop i ws) ≡ get_or ws i 0 + sum (drop (i + 1) ws)
unfolding sum
field_fits ws i h = rw (drop-cons ws i 0 h, add-one i)

pub get-field : (ws : List ℕ) (i : ℕ) (vs rest done next : List ℕ) (x : ℕ) → i < length ws → Getting ws i vs rest done
    → x ≡ value (take (get_or ws i 0) rest) → next ≡ drop (get_or ws i 0) rest
    → Getting ws (i + 1) (set vs i x) next done
unfolding unpack
get-field ws i vs rest done next x h r e n =
    let first : unpack (drop i ws) rest ≡ x ∷ unpack (drop (i + 1) ws) next = rw (drop-cons ws i 0 h, e, n, add-one i) in
    record {
      long = length-set vs i x ∙ r.long;
      fits = rw (n, length-drop (get_or ws i 0) rest) (omega (arith, r.fits, field_fits ws i h));
      text = ap (λ (k : ℕ). sets (set vs i x) k (unpack (drop (i + 1) ws) next)) (add-one i) ∙ (rw first at r.text);
    }

pub get-end : (ws : List ℕ) (i : ℕ) (vs rest done : List ℕ) → length ws ≤ i → Getting ws i vs rest done → vs ≡ done
unfolding unpack
get-end ws i vs rest done h r =
    let n : drop i ws ≡ [] = drop_of_length-le ws h in
    rw n at r.text

-- two lists of numbers of one length are the same
abbrev pub same : List ℕ → List ℕ → Bool
same xs ys = foldr ◌&&◌ true (zip_with eqb xs ys)

-- as `==` says it of lists of one length
pub pointwise-same : (xs ys : List ℕ) → length xs ≡ length ys → pointwise nat_eq xs ys ≡ same xs ys
unfolding zip_with
pointwise-same [] [] h = refl
pointwise-same [] (y ∷ ys) h = absurd (omega (arith, h))
pointwise-same (x ∷ xs) [] h = absurd (omega (arith, h))
pointwise-same (x ∷ xs) (y ∷ ys) h = ap (λ (b : Bool). nat_eq x y && b) (pointwise-same xs ys (omega (arith, h)))

-- what is put into a field of two bytes, and of eight
pub put-two : (l : List ℕ) (v : ℕ) → length l ≡ 2 → to_le_bytes w16 (v % 65536) ≡ little (length l) v
put-two l v e = rw e (little-two v)

pub put-eight : (l : List ℕ) (v : ℕ) → length l ≡ 8 → to_le_bytes w64 v ≡ little (length l) v
put-eight l v e = rw e (little-eight v)

-- the bytes of a number, one by one
pub eight-bytes : (v : ℕ) → get_or (to_le_bytes w64 v) 0 0 ∷ get_or (to_le_bytes w64 v) 1 0 ∷ get_or (to_le_bytes w64 v) 2 0 ∷ get_or (to_le_bytes w64 v) 3 0 ∷ get_or (to_le_bytes w64 v) 4 0
    ∷ get_or (to_le_bytes w64 v) 5 0 ∷ get_or (to_le_bytes w64 v) 6 0 ∷ get_or (to_le_bytes w64 v) 7 0 ∷ [] ≡ to_le_bytes w64 v
eight-bytes v = refl

-- what the goals of putting a field are proved by, whatever their names
pub ruleset putting = (put-two, put-eight, eight-bytes)
