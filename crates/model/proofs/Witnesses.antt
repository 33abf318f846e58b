-- Against emptiness: the premises of the statements of demand 3 are met, each by a schedule that is computed.
use Rattle.std.specs.Prelude.{◌≡◌, refl, true, List, [], ◌∷◌, ◌++◌, ℕ, replicate}
use Rattle.model.specs.Table.{CS, port_at, fresh_table}
use Rattle.model.specs.Event.{enter, stepping, crash, leave}
use Rattle.model.specs.Run.{Order, order, after, ran, done, passed_over, passage_cost}
use Rattle.model.proofs.Laws.Compute.{everything}

-- n steps of port k
abbrev steps : ℕ → ℕ → List Order
steps n k = replicate n (order k stepping)

-- port 0 of two, alone: it enters and makes 14 steps
abbrev alone : List Order
alone = order 0 enter ∷ steps 14 0

-- 1 and 2: it is inside, with critical status; after a crash there its next step puts it inside again
pub inside : ((port_at (ran (fresh_table 2) alone) 0).status ≡ CS) × ((port_at (ran (fresh_table 2) alone) 0).point ≡ 11)
unfolding everything
inside = (refl, refl)

pub brought-back : (port_at (ran (fresh_table 2) (alone ++ (order 0 crash ∷ order 0 stepping ∷ []))) 0).point ≡ 11
unfolding everything
brought-back = refl

-- 3: of three ports, 0 is inside and 1 has set its bit; port 2 stands at 6, makes its step there, and waits while 0 leaves and grants 1
abbrev waiting : List Order
waiting = alone ++ (order 1 enter ∷ steps 6 1) ++ (order 2 enter ∷ steps 5 2)

abbrev leaving : List Order
leaving = order 0 leave ∷ steps 12 0

pub passed_over_lem : (done 2 stepping (ran (fresh_table 3) waiting) (order 2 stepping) ≡ true)
    × ((port_at (ran (fresh_table 3) waiting) 2).point ≡ 6)
    × (passed_over 2 (after (ran (fresh_table 3) waiting) (order 2 stepping)) leaving ≡ 1)
unfolding everything
passed_over_lem = (refl, refl, refl)

-- 4: the lone passage costs 9 and 6 to come inside, and 15 and 14 in all
abbrev passage : List Order
passage = steps 14 0 ++ (order 0 leave ∷ steps 13 0)

pub lone-passage : (passage_cost (λ u. u.cached) 0 (after (fresh_table 2) (order 0 enter)) (steps 14 0) ≡ 9)
    × (passage_cost (λ u. u.distributed) 0 (after (fresh_table 2) (order 0 enter)) (steps 14 0) ≡ 6)
    × (passage_cost (λ u. u.cached) 0 (after (fresh_table 2) (order 0 enter)) passage ≡ 15)
    × (passage_cost (λ u. u.distributed) 0 (after (fresh_table 2) (order 0 enter)) passage ≡ 14)
    × ((port_at (ran (after (fresh_table 2) (order 0 enter)) passage) 0).point ≡ 0)
unfolding everything
lone-passage = (refl, refl, refl, refl, refl)
