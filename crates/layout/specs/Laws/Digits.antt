-- Laws of digits: w bytes hold every number below 256 ^ w, and stand for it.
use Rattle.std.specs.Prelude.{◌≡◌, refl, List, [], ◌∷◌, ◌++◌, ℕ, zero, suc, ◌+◌, ◌*◌, ◌/◌, ◌%◌, ◌^◌, ◌<◌, length, get_or, take, drop}
use Rattle.std.proofs.Common.{ap, pow-suc, le_trans, add-one, arith, length-take, get_or-drop, drop-cons}
use Rattle.std.proofs.Math.Nat.{one-le-pow, pow-le-pow_right}
use Rattle.std.proofs.Math.Arith.{mod-mul}
use Rattle.model.specs.Bytes.{Bytes, little, value}

pub bytes-nil : Bytes []
bytes-nil i = omega arith

pub bytes-append : (bs cs : List ℕ) → Bytes bs → Bytes cs → Bytes (bs ++ cs)
bytes-append [] cs f g i = g i
bytes-append (b ∷ bs) cs f g zero = f 0
bytes-append (b ∷ bs) cs f g (suc i) = bytes-append bs cs (λ j. f (suc j)) g i

pub bytes_drop : (n : ℕ) (bs : List ℕ) → Bytes bs → Bytes (drop n bs)
bytes_drop n bs f i = rw (get_or-drop n bs i 0) (f (n + i))

pub bytes_take : (n : ℕ) (bs : List ℕ) → Bytes bs → Bytes (take n bs)
bytes_take zero bs f i = omega arith
bytes_take (suc n) [] f i = omega arith
bytes_take (suc n) (b ∷ bs) f zero = f 0
bytes_take (suc n) (b ∷ bs) f (suc i) = bytes_take n bs (λ j. f (suc j)) i

pub length-little : (w v : ℕ) → length (little w v) ≡ w
unfolding little
length-little zero v = refl
length-little (suc w) v = ap suc (length-little w (v / 256))

pub little-bytes : (w v : ℕ) → Bytes (little w v)
unfolding little
little-bytes zero v i = omega arith
little-bytes (suc w) v zero = omega arith
little-bytes (suc w) v (suc i) = little-bytes w (v / 256) i

pub value-little : (w v : ℕ) → v < 256 ^ w → value (little w v) ≡ v
unfolding little value
value-little zero v h = omega arith
value-little (suc w) v h =
    let e = value-little w (v / 256) (omega (arith, pow-suc 256 w)) in
    omega (arith, e)

-- what is left of a number in w bytes
pub value-cut : (w v : ℕ) → value (little w v) ≡ v % 256 ^ w
unfolding little value
value-cut zero v = omega arith
value-cut (suc w) v =
    rw (pow-suc 256 w, mod-mul v {m = 256 ^ w} {c = 256} (one-le-pow w 256 (omega arith)) (omega arith), value-cut w (v / 256)) (omega arith)

pub little-value : (bs : List ℕ) → Bytes bs → little (length bs) (value bs) ≡ bs
unfolding little value
little-value [] f = refl
little-value (b ∷ bs) f =
    let d : (b + 256 * value bs) % 256 ≡ b = omega (arith, f 0) in
    let q : (b + 256 * value bs) / 256 ≡ value bs = omega (arith, f 0) in
    rw (d, q) (ap (λ (l : List ℕ). b ∷ l) (little-value bs (λ i. f (suc i))))

pub value-below : (bs : List ℕ) → Bytes bs → value bs < 256 ^ length bs
unfolding value
value-below [] f = omega arith
value-below (b ∷ bs) f = omega (arith, f 0, value-below bs (λ i. f (suc i)), pow-suc 256 (length bs))

-- the value of some w bytes fits w bytes
pub value-fits : (w : ℕ) (bs : List ℕ) → Bytes bs → value (take w bs) < 256 ^ w
value-fits w bs f =
    le_trans (value-below (take w bs) (bytes_take w bs f)) (pow-le-pow_right (omega arith) (rw (length-take w bs) (omega arith)))

-- the value of bytes from j on
pub value-from : (bs : List ℕ) (j : ℕ) → j < length bs → value (drop j bs) ≡ get_or bs j 0 + 256 * value (drop (j + 1) bs)
unfolding value
value-from bs j h = rw (drop-cons bs j 0 h, add-one j)
