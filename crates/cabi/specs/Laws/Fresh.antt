-- yarvelow_fresh by its size.
use Rattle.std.specs.Prelude.{◌≡◌, Bool, List, ℕ, ◌*◌, ◌≤◌, eqb, length, Result, Ok, Err}
use Rattle.std.proofs.Math.Path.{refl, ap}
use Rattle.std.proofs.Common.{◌∙◌}
use borrow.Author.Tests.{eqb-true, eq-eqb}
use Rattle.std.proofs.Math.Bool.{true, false, cond}
use Rattle.std.proofs.Math.Decide.{dec_lt}
use native.Mathlib.Omega.{arith}
use Rattle.model.specs.Table.{room, fresh_table, size_good}
use Rattle.model.specs.Event.{number_of, fresh}
use Rattle.rules.specs.Check.{size-good-fits}
use Rattle.model.specs.Layout.{size}
use Rattle.model.specs.declared.Answer.{Answer}
use Rattle.image.proofs.Laws.Encoded.{size-narrow, size-wide}
use Rattle.image.specs.Image.{write_answer, written, room_after}
use Rattle.cabi.specs.Calls.{fresh_answer, fresh_call, fresh_room}

-- a size that is good fits a table
pub d_fits : (d : ℕ) → size_good d ≡ true → d ≤ 64
unfolding room
d_fits d e = (size-good-fits d e).1

module _ (d : ℕ) (out : List ℕ) where
  pub fresh-refused : size_good d ≡ false → (9 ≡ fresh_call d (length out)) × (out ≡ fresh_room d out)
  unfolding fresh fresh_answer fresh_call fresh_room written room_after
  fresh-refused h = (rw h (omega arith), rw h)

  module _ (h : size_good d ≡ true) where
    abbrev said : Answer
    said = write_answer (fresh_table d) (length out)

    -- what stands in the room, written or not
    pub fresh-left : (next : List ℕ) → next ≡ room_after said (fresh_table d) out → next ≡ fresh_room d out
    unfolding fresh fresh_answer fresh_room
    fresh-left next q = q ∙ rw h

    -- written: the length, which is small
    pub fresh-length : (n : ℕ) → Ok n ≡ written said (fresh_table d) → (number_of said ≡ 0) × (n ≡ size d)
    unfolding written fresh_table
    fresh-length n = go (eqb (number_of said) 0) refl
      where
        go : (b : Bool) → eqb (number_of said) 0 ≡ b → Ok n ≡ cond b (Ok (size d)) (Err said) → (number_of said ≡ 0) × (n ≡ size d)
        go true q r = let f : ◌≡◌ {A = Result ℕ Answer} (Ok n) (Ok (size d)) = r in (eqb-true _ _ q, cc)
        go false q r = let f : ◌≡◌ {A = Result ℕ Answer} (Ok n) (Err said) = r in cc

    pub fresh-small : (n : ℕ) → Ok n ≡ written said (fresh_table d) → n ≤ 2602
    unfolding room
    fresh-small n r = rw (fresh-length n r).1 (elim (dec_lt 16 d) [
      | yes l ↦ omega (arith, size-wide d l, (size-good-fits d h).1)
      | no l ↦ omega (arith, l, size-narrow d (omega (arith, l)))
    ])

    pub fresh-written : (n : ℕ) → Ok n ≡ written said (fresh_table d) → 256 * n ≡ fresh_call d (length out)
    unfolding fresh fresh_table fresh_answer fresh_call written
    fresh-written n r =
        let l = fresh-length n r in
        rw (h, eq-eqb _ _ l.0, l.0, l.1) (omega arith)

    -- not written
    pub fresh-unwritten : (a : Answer) → Err a ≡ written said (fresh_table d) → number_of a ≡ fresh_call d (length out)
    unfolding fresh fresh_answer fresh_call written
    fresh-unwritten a = go (eqb (number_of said) 0) refl
      where
        go : (b : Bool) → eqb (number_of said) 0 ≡ b → Err a ≡ cond b (Ok (size (fresh_table d).shared.d)) (Err said) → number_of a ≡ fresh_call d (length out)
        go true q r = let f : ◌≡◌ {A = Result ℕ Answer} (Err a) (Ok (size (fresh_table d).shared.d)) = r in cc
        go false q r =
            let f : ◌≡◌ {A = Result ℕ Answer} (Err a) (Err said) = r in
            let e : a ≡ said = cc in
            ap number_of e ∙ rw (h, q) (omega arith)
