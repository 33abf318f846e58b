-- Two results that meet the promise of a function of this crate are equal: each promise gives one value at every argument.
use Rattle.std.specs.Prelude.{◌≡◌, ℕ, ◌-◌, ◌%◌, ◌^◌, Bool, cond, ◌==◌}
use Rattle.model.specs.Mask.{stands, within, joined, alone, added}
use Rattle.model.specs.Ring.{next}
use Rattle.model.proofs.Statements.{one}

pub stands_one : (m k : ℕ) (r s : Bool) → r ≡ stands m k → s ≡ stands m k → r ≡ s
stands_one m k r s = one

pub within-one : (d m : ℕ) (r s : Bool) → r ≡ within d m → s ≡ within d m → r ≡ s
within-one d m r s = one

pub alone-one : (k r s : ℕ) → r ≡ alone (k % 64) → s ≡ alone (k % 64) → r ≡ s
alone-one k r s = one

pub joined-one : (m k r s : ℕ) → r ≡ joined m (k % 64) → s ≡ joined m (k % 64) → r ≡ s
joined-one m k r s = one

pub bit-added-one : (m k r s : ℕ) → r ≡ added m (2 ^ (k % 64)) → s ≡ added m (2 ^ (k % 64)) → r ≡ s
bit-added-one m k r s = one

pub bit-taken-one : (m k r s : ℕ) → r ≡ added m (2 ^ 64 - 2 ^ (k % 64)) → s ≡ added m (2 ^ 64 - 2 ^ (k % 64)) → r ≡ s
bit-taken-one m k r s = one

pub next_one : (o a r s : ℕ) → r ≡ cond (a == 0) 64 (next 64 (o % 64) a) → s ≡ cond (a == 0) 64 (next 64 (o % 64) a) → r ≡ s
next_one o a r s = one
