-- Two results that meet the promise of a function of this crate are equal: each promise gives one value at every argument.
use Rattle.std.specs.Prelude.{◌≡◌, Bool, ◌&&◌, ℕ, ltb}
use Rattle.model.specs.declared.Port.{Port}
use Rattle.model.specs.declared.Touch.{Touch}
use Rattle.model.specs.Mask.{stands}
use Rattle.model.specs.Points.{point_of, settled}
use Rattle.model.specs.Parts.Charges.{touch_at}
use Rattle.model.proofs.Statements.{one}

pub has_one : (places n : ℕ) (r s : Bool) → r ≡ (ltb n 46 && stands places n) → s ≡ (ltb n 46 && stands places n) → r ≡ s
has_one places n r s = one

pub settled-one : (p r s : Port) → r ≡ settled p → s ≡ settled p → r ≡ s
settled-one p r s = one

pub touch-at-one : (n : ℕ) (r s : Touch) → r ≡ touch_at (point_of n) → s ≡ touch_at (point_of n) → r ≡ s
touch-at-one n r s = one
