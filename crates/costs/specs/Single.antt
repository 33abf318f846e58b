-- A charge from the one copy set that a touch changes.
use Rattle.std.specs.Prelude.{◌≡◌, refl, Bool, true, false, ℕ}
use Rattle.model.specs.declared.Work.{Work}
use Rattle.model.specs.declared.Port.{Port}
use Rattle.model.specs.declared.Copies.{Copies}
use Rattle.model.specs.declared.Shared.{Shared}
use Rattle.model.specs.declared.Touch.{Touch}
use Rattle.model.specs.declared.Charge.{Charge}
use Rattle.model.specs.declared.Fee.{Fee}
use Rattle.model.specs.declared.Cell.{Cell}
use Rattle.model.specs.declared.Cell.TheVariants.{Nothing, Status, Go, Spin, Active, Lock, CandidateGo, SeenSpin}
use Rattle.model.specs.Parts.Charges.{charged, old, holders, put_shared, put_copies, fee_of, charge}

-- the copy sets with the word's put where it stands are as they were
kept-shared : (c : Cell) (s : Shared) (x : Copies) → put_shared c (holders c s x) s ≡ s
kept-shared Nothing s x = refl
kept-shared Status s x = refl
kept-shared Go s x = refl
kept-shared Spin s x = refl
kept-shared Active s x = refl
kept-shared Lock s x = refl
kept-shared CandidateGo s x = refl
kept-shared SeenSpin s x = refl

kept-copies : (c : Cell) (s : Shared) (x : Copies) → put_copies c (holders c s x) x ≡ x
kept-copies Nothing s x = refl
kept-copies Status s x = refl
kept-copies Go s x = refl
kept-copies Spin s x = refl
kept-copies Active s x = refl
kept-copies Lock s x = refl
kept-copies CandidateGo s x = refl
kept-copies SeenSpin s x = refl

-- what a fee makes of all copy sets
abbrev pub paid : Cell → Fee → Shared → Copies → Charge
paid c f s x = charged (put_shared c f.set s) (put_copies c f.set x) f.cached f.distributed

pub charge-fee : (u : Touch) (k : ℕ) (w : Work) (q : Port) (s : Shared) (c : Copies)
    → charge u k w q s c ≡ paid u.cell (fee_of u k w q (holders u.cell s c)) s c
unfolding charge fee_of
charge-fee u k w q s c = go (old u.cell w q) refl
  where
    go : (b : Bool) → old u.cell w q ≡ b → charge u k w q s c ≡ paid u.cell (fee_of u k w q (holders u.cell s c)) s c
    go true e = rw (e, kept-shared u.cell s c, kept-copies u.cell s c)
    go false e = rw e
