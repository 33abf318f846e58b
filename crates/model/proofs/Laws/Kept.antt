-- A good table stays good: a fresh table is good, and every order, and so every run, makes a good table of a good one.
use Rattle.std.specs.Prelude.{◌≡◌, refl, true, ◌&&◌, List, [], ◌∷◌, ℕ, ◌≤◌, leb}
use Rattle.std.proofs.Common.{◌∙◌, arith, leb-true, lit≤, pow_pos}
use Rattle.std.proofs.Math.Bool.{and-eq-true_iff}
use Rattle.std.proofs.lemmas.List.{get_or-replicate}
use Rattle.model.specs.declared.Table.{Table}
use Rattle.model.specs.declared.Made.{Made}
use Rattle.model.specs.Table.{room, no_port, no_copies, fresh_table, Sized, size_good}
use Rattle.model.specs.Points.{one_of, own_place, seen_place, candidate_place, candidate_spin_place}
use Rattle.model.specs.Good.{named, good}
use Rattle.model.specs.Parts.Good.{port_empty}
use Rattle.model.specs.Event.{fresh}
use Rattle.model.specs.Run.{Order, after, ran}
use Rattle.model.proofs.Laws.Tests.{split}
use Rattle.model.proofs.Laws.Rules.{shared-rules}
use Rattle.model.proofs.Laws.Cases.{after-case}
use Rattle.model.proofs.Laws.After.{fresh-sized, after-sized, after-d}
use Rattle.model.proofs.Laws.Sound.{sound-good}
use Rattle.model.proofs.Laws.KeptOrdered.{ordered-good}
use Rattle.model.proofs.Laws.KeptStep.{step-good}

-- a set of ports has 64 bits, enough for every port that there is room for
pub room_fits : room ≤ 64
unfolding room
room_fits = lit≤ tt

one-fits : 1 ≤ room
unfolding room
one-fits = lit≤ tt

-- a fresh table is good
pub good-fresh : (d : ℕ) → 1 ≤ d → d ≤ room → good (fresh_table d) ≡ true
unfolding fresh_table named one_of own_place seen_place candidate_place candidate_spin_place port_empty
good-fresh d some fits =
    sound-good (fresh_table d)
    (record {
      some = some;
      fits = fits;
      bits = pow_pos d;
      word = omega arith;
      port = λ k h. rw (get_or-replicate room k no_port no_port (omega arith)) (record { bounds = omega arith; enters = search; rests = search });
      shared = omega (arith, pow_pos d);
      copies = λ k h. rw (get_or-replicate room k no_copies no_copies (omega arith)) (omega (arith, pow_pos d));
      empty = λ k l h. rw (get_or-replicate room k no_port no_port h, get_or-replicate room k no_copies no_copies h);
    })

-- whatever number it is asked for, `fresh` gives a good table, with its lists as long as the room
pub made-good : (d : ℕ) → good (fresh d).table ≡ true
unfolding fresh size_good
made-good d =
    split (λ (m : Made). good m.table ≡ true) (leb 1 d && leb d room) _ _
    (λ h. let p = (and-eq-true_iff (leb 1 d) (leb d room)).0 h in good-fresh d (leb-true 1 d p.0) (leb-true d room p.1))
    (λ h. good-fresh 1 (lit≤ tt) one-fits)

pub made-sized : (d : ℕ) → Sized (fresh d).table
unfolding fresh
made-sized d = split (λ (m : Made). Sized m.table) (size_good d) _ _ (λ h. fresh-sized d) (λ h. fresh-sized 1)

-- every order makes a good table of a good one
pub good-after : (t : Table) (o : Order) → Sized t → good t ≡ true → good (after t o) ≡ true
good-after t o z g =
    after-case t o (λ (u : Table). good u ≡ true) g
    (λ c. ordered-good t o.port o.event z g c.port c.allowed)
    (λ c. step-good t o.port z g c.port (omega (arith, (shared-rules t g).fits, room_fits)) c.unworn)

-- every run makes a good table of a good one, and keeps the lengths and the number of ports
pub ran-sized : (t : Table) (os : List Order) → Sized t → Sized (ran t os)
unfolding ran
ran-sized t [] z = z
ran-sized t (o ∷ os) z = ran-sized (after t o) os (after-sized t o z)

pub ran-d : (t : Table) (os : List Order) → (ran t os).shared.d ≡ t.shared.d
unfolding ran
ran-d t [] = refl
ran-d t (o ∷ os) = ran-d (after t o) os ∙ after-d t o

pub good-ran : (t : Table) (os : List Order) → Sized t → good t ≡ true → good (ran t os) ≡ true
unfolding ran
good-ran t [] z g = g
good-ran t (o ∷ os) z g = good-ran (after t o) os (after-sized t o z) (good-after t o z g)
