-- Two results that meet the promise of a function of this crate are equal: each promise gives one value at every argument.
use Rattle.std.specs.Prelude.{◌≡◌, Bool, ℕ, ◌%◌}
use Rattle.model.specs.declared.Work.{Work}
use Rattle.model.specs.declared.Port.{Port}
use Rattle.model.specs.declared.Copies.{Copies}
use Rattle.model.specs.declared.Shared.{Shared}
use Rattle.model.specs.declared.Touch.{Touch}
use Rattle.model.specs.declared.Fee.{Fee}
use Rattle.model.specs.declared.Charge.{Charge}
use Rattle.model.specs.declared.Cell.{Cell}
use Rattle.model.specs.Table.{latest}
use Rattle.model.specs.Parts.Charges.{home, fee_of, charge}
use Rattle.model.proofs.Statements.{one}

pub home-one : (cell : Cell) (k : ℕ) (w : Work) (r s : ℕ) → r ≡ home cell k w → s ≡ home cell k w → r ≡ s
home-one cell k w r s = one

pub latest-one : (p : Port) (n : ℕ) (r s : Bool) → r ≡ latest p n → s ≡ latest p n → r ≡ s
latest-one p n r s = one

pub fee-one : (u : Touch) (k : ℕ) (w : Work) (q : Port) (m : ℕ) (x y : Fee) → x ≡ fee_of u (k % 64) w q m → y ≡ fee_of u (k % 64) w q m → x ≡ y
fee-one u k w q m x y = one

pub charge-one : (u : Touch) (k : ℕ) (w : Work) (q : Port) (s : Shared) (c : Copies) (x y : Charge) → x ≡ charge u (k % 64) w q s c
    → y ≡ charge u (k % 64) w q s c → x ≡ y
charge-one u k w q s c x y = one
