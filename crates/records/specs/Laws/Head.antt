-- The head of an image, looked at test by test.
use Rattle.std.specs.Prelude.{◌≡◌, refl, Bool, true, false, cond, ◌&&◌, List, [], ◌∷◌, ℕ, ◌≤◌, ◌<◌, leb, nat_eq, length, get_or, take, None, Some}
use Rattle.std.proofs.Math.Bool.{and-eq-true_iff, and-false}
use Rattle.std.specs.Cmp.Lexicographic.{pointwise}
use Rattle.std.proofs.Common.{ap, sym, ◌∙◌, arith, take_all}
use borrow.Author.Tests.{eqb-true, eq-eqb, ne_eqb, leb-true}
use Rattle.std.proofs.Math.Dec.{eqb}
use Rattle.model.specs.Table.{room, size_good}
use Rattle.model.specs.Bytes.{sum, unpack}
use Rattle.model.specs.Layout.{head_widths, head_values, size, d_in, is_image}
use Rattle.rules.specs.Check.{size-good-fits}
use Rattle.layout.specs.Laws.Inside.{start-inside, copied-inside}
use Rattle.layout.specs.Laws.Records.{length-unpack}
use Rattle.records.specs.Records.{ports_in, some_ports}
use Rattle.records.specs.Laws.Rows.{same, pointwise-same}

-- the tests of an image, one by one
pub record Image (bs : List ℕ) : Type 0 where
  pub some : 1 ≤ d_in bs
  pub fits : d_in bs ≤ room
  pub long : length bs ≡ size (d_in bs)
  pub head : same (unpack head_widths bs) (head_values (d_in bs)) ≡ true

pub image-tests : (bs : List ℕ) → is_image bs ≡ true → Image bs
unfolding is_image size_good
image-tests bs e =
    let a = (and-eq-true_iff (leb 1 (d_in bs) && leb (d_in bs) room && eqb (length bs) (size (d_in bs))) _).0 e in
    let b = (and-eq-true_iff (leb 1 (d_in bs) && leb (d_in bs) room) _).0 a.0 in
    let c = (and-eq-true_iff (leb 1 (d_in bs)) _).0 b.0 in
    record {
      some = leb-true _ _ c.0;
      fits = leb-true _ _ c.1;
      long = eqb-true _ _ b.1;
      head = a.1;
    }

-- that D is at most the room, and where it is not 0 the bytes are as long as its image
pub ports-fit : (bs : List ℕ) → (ports_in bs ≤ room) × (0 < ports_in bs → length bs ≡ size (ports_in bs))
unfolding ports_in
ports-fit bs = go (is_image bs) refl
  where
    go : (b : Bool) → is_image bs ≡ b → (cond b (d_in bs) 0 ≤ room) × (0 < cond b (d_in bs) 0 → length bs ≡ size (cond b (d_in bs) 0))
    go true e = ((image-tests bs e).fits, λ h. (image-tests bs e).long)
    go false e = (omega arith, λ h. absurd (omega (arith, h)))

-- D is found test by test
ports-none : (bs : List ℕ) → is_image bs ≡ false → 0 ≡ ports_in bs
unfolding ports_in
ports-none bs e = rw e

module _ (bs : List ℕ) where
  pub too_short : length bs < 14 → 0 ≡ ports_in bs
  unfolding is_image sum head_widths
  too_short h =
      ports-none bs
      (rw (ne_eqb (length bs) (size (d_in bs)) (λ e. absurd (omega (arith, e, h, start-inside (d_in bs), copied-inside (d_in bs)))), and-false (size_good (d_in bs))))

  module _ (v : List ℕ) (e : v ≡ unpack head_widths bs) where
    d-in : d_in bs ≡ get_or v 1 0
    unfolding d_in
    d-in = rw e

    -- the head against the one that its D asks for, as `==` tests it
    pub compared : (h : List ℕ) → h ≡ head_values (get_or v 1 0) → pointwise nat_eq v h ≡ same v (head_values (get_or v 1 0))
    unfolding head_widths head_values
    compared h q = rw q (pointwise-same v (head_values (get_or v 1 0)) (ap length e ∙ length-unpack head_widths bs))

    pub wrong_size : size_good (get_or v 1 0) ≡ false → 0 ≡ ports_in bs
    unfolding is_image
    wrong_size h = ports-none bs (rw (d-in, h))

    pub wrong-length : (length bs ≡ size (get_or v 1 0) → ⊥) → 0 ≡ ports_in bs
    unfolding is_image
    wrong-length h = ports-none bs (rw (d-in, ne_eqb (length bs) (size (get_or v 1 0)) h, and-false (size_good (get_or v 1 0))))

    pub wrong-head : same v (head_values (get_or v 1 0)) ≡ false → 0 ≡ ports_in bs
    unfolding is_image
    wrong-head h = ports-none bs (rw (d-in, ← e, h) (and-false (size_good (get_or v 1 0) && eqb (length bs) (size (get_or v 1 0)))))

    pub right : size_good (get_or v 1 0) ≡ true → length bs ≡ size (get_or v 1 0) → same v (head_values (get_or v 1 0)) ≡ true → get_or v 1 0 ≡ ports_in bs
    unfolding is_image ports_in
    right a b c = rw (d-in, ← e, a, eq-eqb _ _ b, c)

-- the numbers of the head, as the code has their widths
abbrev numbers : List ℕ → List ℕ
numbers bs = unpack (1 ∷ 1 ∷ 2 ∷ 2 ∷ 2 ∷ 2 ∷ 2 ∷ 2 ∷ []) bs

-- what is answered where the heads are compared, by what the comparison says
pub right-some : (bs : List ℕ) → size_good (get_or (numbers bs) 1 0) ≡ true → length bs ≡ size (get_or (numbers bs) 1 0)
    → pointwise nat_eq (numbers bs) (head_values (get_or (numbers bs) 1 0)) ≡ true → Some (get_or (numbers bs) 1 0) ≡ some_ports (ports_in bs)
unfolding head_widths some_ports
right-some bs g l h =
    let e = right bs (numbers bs) refl g l (sym (compared bs (numbers bs) refl _ refl) ∙ h) in
    rw (← e, ne_eqb (get_or (numbers bs) 1 0) 0 (λ z. absurd (omega (arith, z, (size-good-fits _ g).0))))

pub wrong-none : (bs : List ℕ) → pointwise nat_eq (numbers bs) (head_values (get_or (numbers bs) 1 0)) ≡ false → None ≡ some_ports (ports_in bs)
unfolding head_widths some_ports
wrong-none bs h = ap some_ports (wrong-head bs (numbers bs) refl (sym (compared bs (numbers bs) refl _ refl) ∙ h))

-- the heads from number 0 on
pub all-numbers : (bs : List ℕ) → take 8 (numbers bs) ≡ numbers bs
all-numbers bs = take_all 8 (numbers bs) (omega (arith, length-unpack (1 ∷ 1 ∷ 2 ∷ 2 ∷ 2 ∷ 2 ∷ 2 ∷ 2 ∷ []) bs))

pub all-values : (d : ℕ) → take 8 (head_values d) ≡ head_values d
unfolding head_values
all-values d = refl

-- the heads the other way round
eqb-comm : (x y : ℕ) → eqb x y ≡ eqb y x
eqb-comm x y = go (eqb y x) refl
  where
    go : (b : Bool) → eqb y x ≡ b → eqb x y ≡ eqb y x
    go true e = eq-eqb x y (sym (eqb-true y x e)) ∙ sym e
    go false e = ne_eqb x y (λ h. absurd (let z : false ≡ true = sym e ∙ eq-eqb y x (sym h) in cc)) ∙ sym e

swapped : (xs ys : List ℕ) → pointwise nat_eq xs ys ≡ pointwise nat_eq ys xs
swapped [] [] = refl
swapped [] (y ∷ ys) = refl
swapped (x ∷ xs) [] = refl
swapped (x ∷ xs) (y ∷ ys) = rw (swapped xs ys) (ap (λ (b : Bool). b && pointwise nat_eq ys xs) (eqb-comm x y))

pub other-way : (bs : List ℕ) (d : ℕ) → pointwise nat_eq (head_values d) (numbers bs) ≡ pointwise nat_eq (numbers bs) (head_values d)
other-way bs d = swapped (head_values d) (numbers bs)

-- what the goals of the comparison are proved by, however the code compares
pub ruleset comparing = (right-some, wrong-none, all-numbers, all-values, other-way)
