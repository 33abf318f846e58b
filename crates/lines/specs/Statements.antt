-- Two results that meet the promise of a function of this crate are equal: each promise gives one value at every argument.
use Rattle.std.specs.Prelude.{◌≡◌, Bool, ℕ}
use Rattle.lines.specs.declared.Part.{Part}
use Rattle.lines.specs.declared.Stage.{Stage}
use Rattle.lines.specs.declared.Act.{Act}
use Rattle.lines.specs.Reading.{act, live, cut_off}
use Rattle.model.proofs.Statements.{one}

pub act-one : (s : Stage) (p : Part) (b : ℕ) (x y : Act) → x ≡ act s p b → y ≡ act s p b → x ≡ y
act-one s p b x y = one

pub live-one : (s : Stage) (x y : Bool) → x ≡ live s → y ≡ live s → x ≡ y
live-one s x y = one

pub cut-off-one : (s : Stage) (p : Part) (x y : Bool) → x ≡ cut_off s p → y ≡ cut_off s p → x ≡ y
cut-off-one s p x y = one
