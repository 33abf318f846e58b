-- The records of an image lie inside it; the widths of copy sets.
use Rattle.std.specs.Prelude.{◌≡◌, refl, Bool, true, false, [], ◌∷◌, leb}
use Prim.Native.Nat.{ℕ, suc, ◌+◌, ◌*◌, ◌≤◌, ◌<◌}
use Rattle.std.proofs.Math.Nat.{suc-mul, mul-le-mul_right, mul-le-mul_left}
use native.Mathlib.Omega.{arith}
use Rattle.std.proofs.Common.{le-leb}
use Rattle.std.proofs.lemmas.Bool.{lt-leb}
use Rattle.model.specs.Bytes.{sum}
use Rattle.model.specs.Layout.{shared_widths, port_widths, set_width, copied_widths, copies_widths, head_widths, port_place, copies_place, size}

-- the records of the image of d ports lie inside it
module _ (d : ℕ) where
  pub start-inside : sum head_widths + sum shared_widths ≤ port_place d
  unfolding port_place
  start-inside = omega arith

  pub port-inside : (i : ℕ) → i < d → port_place i + sum port_widths ≤ port_place d
  unfolding port_place
  port-inside i h =
      let m : suc i * sum port_widths ≤ d * sum port_widths = mul-le-mul_right (sum port_widths) (omega (arith, h)) in
      omega (arith, m, suc-mul i (sum port_widths))

  pub copied-inside : port_place d + sum (copied_widths d) ≤ size d
  unfolding copies_place size
  copied-inside = omega arith

  pub copies-inside : (i : ℕ) → i < d → copies_place d i + sum (copies_widths d) ≤ size d
  unfolding copies_place size
  copies-inside i h =
      let m : suc i * sum (copies_widths d) ≤ d * sum (copies_widths d) = mul-le-mul_right (sum (copies_widths d)) (omega (arith, h)) in
      omega (arith, m, suc-mul i (sum (copies_widths d)))

-- the widths of copy sets
module _ (d : ℕ) where
  pub copied-narrow : d ≤ 16 → copied_widths d ≡ 2 ∷ 2 ∷ []
  unfolding copied_widths set_width
  copied-narrow h = rw (le-leb d 16 h)

  pub copied-wide : 16 < d → copied_widths d ≡ 8 ∷ 8 ∷ []
  unfolding copied_widths set_width
  copied-wide h = rw (lt-leb d 16 h)

  pub copies-narrow : d ≤ 16 → copies_widths d ≡ 2 ∷ 2 ∷ 2 ∷ []
  unfolding copies_widths set_width
  copies-narrow h = rw (le-leb d 16 h)

  pub copies-wide : 16 < d → copies_widths d ≡ 8 ∷ 8 ∷ 8 ∷ []
  unfolding copies_widths set_width
  copies-wide h = rw (lt-leb d 16 h)

-- the places of an image of any d and k that a byte holds are small
pub places-small : (d k : ℕ) → d < 256 → k < 256 → (port_place d < 5000) × (copies_place d k < 11000)
unfolding sum head_widths shared_widths port_widths set_width copied_widths copies_widths port_place copies_place
places-small d k h l = go (leb d 16) refl
  where
    go : (b : Bool) → leb d 16 ≡ b → (port_place d < 5000) × (copies_place d k < 11000)
    go true q = rw q (omega arith, omega arith)
    go false q = rw q (omega arith, omega arith)

-- the copy sets of d ports, in numbers of one copy set
pub three-sets : (k w : ℕ) → k * (3 * w) ≡ k * sum (w ∷ w ∷ w ∷ [])
unfolding sum
three-sets k w = let e : 3 * w ≡ w + (w + (w + 0)) = omega arith in rw e

pub three-small : (k w : ℕ) → k < 256 → w ≤ 8 → k * (3 * w) ≤ 6144
three-small k w h l =
    let m : k * (3 * w) ≤ k * 24 = mul-le-mul_left k (omega (arith, l)) in
    omega (arith, m, h)

-- in each version: the bytes of a copy set, and the places and the length of those of d ports
module _ (d : ℕ) where
  pub set-narrow : d ≤ 16 → set_width d ≡ 2
  unfolding set_width
  set-narrow h = rw (le-leb d 16 h)

  pub set-wide : 16 < d → set_width d ≡ 8
  unfolding set_width
  set-wide h = rw (lt-leb d 16 h)

  pub place-narrow : (k : ℕ) → d ≤ 16 → copies_place d k ≡ 30 + 16 * d + 6 * k
  unfolding sum head_widths shared_widths port_widths set_width copied_widths copies_widths port_place copies_place
  place-narrow k h = rw (le-leb d 16 h) (omega arith)

  pub place-wide : (k : ℕ) → 16 < d → copies_place d k ≡ 42 + 16 * d + 24 * k
  unfolding sum head_widths shared_widths port_widths set_width copied_widths copies_widths port_place copies_place
  place-wide k h = rw (lt-leb d 16 h) (omega arith)

  pub long-narrow : d ≤ 16 → sum (copied_widths d) + d * sum (copies_widths d) ≡ 4 + 6 * d
  unfolding sum set_width copied_widths copies_widths
  long-narrow h = rw (le-leb d 16 h) (omega arith)

  pub long-wide : 16 < d → sum (copied_widths d) + d * sum (copies_widths d) ≡ 16 + 24 * d
  unfolding sum set_width copied_widths copies_widths
  long-wide h = rw (lt-leb d 16 h) (omega arith)

  pub port-at : port_place d ≡ 26 + 16 * d
  unfolding sum head_widths shared_widths port_widths port_place
  port-at = omega arith

-- what the places and the length of copy sets are proved by, however the code works them out
pub ruleset places = (set-narrow, set-wide, place-narrow, place-wide, long-narrow, long-wide, port-at)
