-- A call leaves the rest of its piece to be taken, and one that takes nothing is at its end: from these a program's loop has its promise.
use Rattle.std.specs.Prelude.{◌≡◌, ℕ, ◌-◌, ◌<◌, ◌≤◌, Bool, true, false, List, [], ◌∷◌, length, drop, nat_le, refl}
use Rattle.std.proofs.Common.{sym, ◌∙◌, arith}
use Rattle.std.proofs.Math.Bool.{and-false}
use Rattle.lines.specs.Reading.{act, live}
use Rattle.text.specs.Text.{longest}
use Rattle.listing.specs.declared.Run.{Run}
use Rattle.listing.specs.declared.Fed.{Fed}
use Rattle.listing.specs.Feed.{acted, feeding}
use Rattle.listing.specs.Took.{took}
use Rattle.listing.proofs.Laws.Taking.{takes}

at-end : (r : Run) (bs : List ℕ) → live r.stage ≡ false → took r bs ≡ r
unfolding took
at-end r [] e = refl
at-end r (b ∷ bs) e = rw e

-- a call leaves the rest of its piece to be taken
leaves-rest : (room : ℕ) (r : Run) (bs : List ℕ) → took r bs ≡ took (feeding room r bs).0.run (drop (feeding room r bs).0.taken bs)
unfolding took feeding
leaves-rest room r [] = refl
leaves-rest room r (b ∷ bs) = go (nat_le longest room) refl (live r.stage) refl (leaves-rest (room - length (acted r (act r.stage r.part b)).1) (acted r (act r.stage r.part b)).0 bs)
  where
    go : (x : Bool) → nat_le longest room ≡ x → (y : Bool) → live r.stage ≡ y
        → took (acted r (act r.stage r.part b)).0 bs
        ≡ took (feeding (room - length (acted r (act r.stage r.part b)).1) (acted r (act r.stage r.part b)).0 bs).0.run
        (drop (feeding (room - length (acted r (act r.stage r.part b)).1) (acted r (act r.stage r.part b)).0 bs).0.taken bs)
        → took r (b ∷ bs) ≡ took (feeding room r (b ∷ bs)).0.run (drop (feeding room r (b ∷ bs)).0.taken (b ∷ bs))
    go true p true q e = rw (p, q) e
    go true p false q e = at-end r (b ∷ bs) q ∙ sym (rw (p, q) (at-end r (b ∷ bs) q))
    go false p y q e = rw p

-- one that takes nothing of a piece is at its end, where there is room for a line
nothing-taken : (room : ℕ) (r : Run) (bs : List ℕ) → longest ≤ room → 0 < length bs → (feeding room r bs).0.taken ≡ 0 → took r bs ≡ (feeding room r bs).0.run
unfolding feeding
nothing-taken room r [] h l e = absurd (omega (arith, l))
nothing-taken room r (b ∷ bs) h l e = go (live r.stage) refl
  where
    go : (x : Bool) → live r.stage ≡ x → took r (b ∷ bs) ≡ (feeding room r (b ∷ bs)).0.run
    go true q = absurd (omega (arith, takes room r b bs h q, e))
    go false q = at-end r (b ∷ bs) q ∙ rw (q, and-false (nat_le longest room))

-- both, of what a call promises
pub fed-rest : (room : ℕ) (r : Run) (bs : List ℕ) (f : Fed) → f ≡ (feeding room r bs).0 → longest ≤ room
    → (took r bs ≡ took f.run (drop f.taken bs)) × (0 < length bs → f.taken ≡ 0 → took r bs ≡ f.run)
fed-rest room r bs f e h = rw e (leaves-rest room r bs, nothing-taken room r bs h)
