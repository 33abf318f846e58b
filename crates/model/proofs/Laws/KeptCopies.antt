-- The copy sets after a touch: no bit at D or above comes to stand in one, and a port that has made no spin keeps an empty set for its spin.
use Rattle.std.specs.Prelude.{◌≡◌, refl, false, ℕ, ◌^◌, ◌<◌}
use Rattle.std.proofs.Math.Bool.{and-false}
use Rattle.std.proofs.Common.{true≢false, arith, pow_pos}
use Rattle.model.specs.declared.Work.{Work}
use Rattle.model.specs.declared.Port.{Port}
use Rattle.model.specs.declared.Copies.{Copies}
use Rattle.model.specs.declared.Shared.{Shared}
use Rattle.model.specs.declared.Touch.{Touch}
use Rattle.model.specs.declared.Charge.{Charge}
use Rattle.model.specs.declared.Cell.{Cell}
use Rattle.model.specs.declared.Cell.TheVariants.{Nothing, Status, Go, Spin, Active, Lock, CandidateGo, SeenSpin}
use Rattle.model.specs.declared.Kind.{Kind}
use Rattle.model.specs.declared.Kind.TheVariants.{Read, Write, Add, Swap}
use Rattle.model.specs.declared.Kind.TheVariants as Kinds
use Rattle.model.specs.Table.{latest}
use Rattle.model.specs.Parts.Charges.{copied, charge, old, holders, put_shared, put_copies}
use Rattle.model.proofs.Laws.Tests.{split}
use Rattle.model.proofs.Laws.Mask.{joined-below, alone-below}
use Rattle.model.proofs.Laws.Sound.{SharedCopies, PortCopies}

-- the set that a touch by port k leaves of a set within d
copied-below : (a : Kind) {k d m : ℕ} → k < d → m < 2 ^ d → copied a k m < 2 ^ d
copied-below Kinds.Nothing l h = h
copied-below Read l h = joined-below l h
copied-below Write l h = alone-below l
copied-below Add l h = alone-below l
copied-below Swap l h = alone-below l

module _ (d : ℕ) (s : Shared) (c : Copies) (a : SharedCopies d s) (b : PortCopies d c) where
  -- the set of a word, and all sets with another one for the word's
  holders-below : (e : Cell) → holders e s c < 2 ^ d
  holders-below Nothing = pow_pos d
  holders-below Status = b.status
  holders-below Go = b.go
  holders-below Spin = b.spin
  holders-below Active = a.active
  holders-below Lock = a.word
  holders-below CandidateGo = b.go
  holders-below SeenSpin = b.spin

  put-below : (e : Cell) (m : ℕ) → m < 2 ^ d → SharedCopies d (put_shared e m s) × PortCopies d (put_copies e m c)
  put-below Nothing m h = omega arith
  put-below Status m h = omega arith
  put-below Go m h = omega arith
  put-below Spin m h = omega arith
  put-below Active m h = omega arith
  put-below Lock m h = omega arith
  put-below CandidateGo m h = omega arith
  put-below SeenSpin m h = omega arith

  pub charge-below : (u : Touch) (k : ℕ) (w : Work) (q : Port) → k < d
      → SharedCopies d (charge u k w q s c).shared × PortCopies d (charge u k w q s c).copies
  unfolding charge
  charge-below u k w q h =
      split (λ (r : Charge). SharedCopies d r.shared × PortCopies d r.copies) (old u.cell w q) _ _
      (λ e. (a, b))
      (λ e. put-below u.cell _ (copied-below u.kind h (holders-below u.cell)))

-- no spin is the latest of a port that has made none; so a touch leaves the set of its spin as it was
none-latest : (q : Port) (n : ℕ) → q.made ≡ 0 → latest q n ≡ false
none-latest q n z = rw (z, and-false)

put-spin : (e : Cell) (m : ℕ) (w : Work) (q : Port) (c : Copies) → q.made ≡ 0 → old e w q ≡ false → (put_copies e m c).spin ≡ c.spin
put-spin Nothing m w q c z o = refl
put-spin Status m w q c z o = refl
put-spin Go m w q c z o = refl
put-spin Spin m w q c z o = absurd (true≢false (rw (none-latest q w.own z) at o))
put-spin Active m w q c z o = refl
put-spin Lock m w q c z o = refl
put-spin CandidateGo m w q c z o = refl
put-spin SeenSpin m w q c z o = absurd (true≢false (rw (none-latest q w.seenspin z) at o))

pub charge-spin : (u : Touch) (k : ℕ) (w : Work) (q : Port) (s : Shared) (c : Copies) → q.made ≡ 0 → (charge u k w q s c).copies.spin ≡ c.spin
unfolding charge
charge-spin u k w q s c z =
    split (λ (r : Charge). r.copies.spin ≡ c.spin) (old u.cell w q) _ _ (λ e. refl) (λ e. put-spin u.cell _ w q c z e)
