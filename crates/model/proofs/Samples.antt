-- Document 01's cases marked P: what the definitions give beside what the document says, in one table.
use Rattle.std.specs.Prelude.{◌≡◌, refl, Bool, true, ◌&&◌, List, [], ◌∷◌, ℕ, eqb}
use Rattle.model.specs.declared.Table.{Table}
use Rattle.model.specs.Table.{port_at, fresh_table}
use Rattle.model.specs.Ring.{next}
use Rattle.model.specs.Event.{number_of, enter, stepping, event, fresh}
use Rattle.model.proofs.Laws.Compute.{everything}

-- the fresh table of two ports, and what an event on it answers
abbrev pair : Table
pair = fresh_table 2

abbrev answer : Table → ℕ → ℕ → ℕ
answer t k e = number_of (event t k e).answer

-- a set of ports is written as its mask: {0} is 1, {0, 1} is 3
abbrev pub samples : List (ℕ × ℕ)
samples =
    (next 16 0 1, 0)
    ∷ (next 16 0 3, 1)
    ∷ (next 16 3 6, 1)
    ∷ (next 16 1 9, 3)
    ∷ (next 16 15 32768, 15)
    ∷ (answer pair 0 enter, 0)
    ∷ ((port_at (event pair 0 enter).table 0).point, 1)
    ∷ ((event pair 0 enter).cached, 0)
    ∷ ((event pair 0 enter).distributed, 0)
    ∷ (answer (event pair 0 enter).table 0 enter, 4)
    ∷ (answer pair 0 stepping, 7)
    ∷ (number_of (fresh 0).answer, 9)
    ∷ (number_of (fresh 65).answer, 9)
    ∷ (answer pair 2 enter, 2)
    ∷ (answer pair 0 6, 3)
    ∷ []

-- every line of the table agrees
abbrev pub agrees : List (ℕ × ℕ) → Bool
agrees [] = true
agrees (s ∷ ss) = eqb s.0 s.1 && agrees ss

pub all-samples : agrees samples ≡ true
unfolding everything
all-samples = refl
