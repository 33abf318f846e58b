-- Runs: orders, each a port and an event of any numbers, carried out one after the other; what the statements of demand 3 count along a run.
use Rattle.std.specs.Prelude.{◌≡◌, Bool, true, cond, not, ◌&&◌, ◌||◌, List, [], ◌∷◌, ℕ, zero, suc, ◌+◌, ◌*◌, ◌/◌, min, eqb, length, get_or, drop}
use Rattle.std.proofs.lemmas.List.Edits.{sets}
use Rattle.model.specs.declared.Table.{Table}
use Rattle.model.specs.declared.Outcome.{Outcome}
use Rattle.model.specs.declared.Made.{Made}
use Rattle.model.specs.declared.Answer.TheVariants.{Done, BadTable}
use Rattle.model.specs.Table.{CS, word, port_at, fresh_table}
use Rattle.model.specs.Mask.{stands}
use Rattle.model.specs.Points.{one_of}
use Rattle.model.specs.Good.{good, bad_in}
use Rattle.model.specs.Step.{same}
use Rattle.model.specs.Event.{number_of, answer_code, stepping, crash, event}

pub record Order : Type 0 where
  pub port : ℕ
  pub event : ℕ

abbrev pub order : ℕ → ℕ → Order
order k e = record { port = k; event = e }

-- what an order answers, and the table after it
abbrev pub answered : Table → Order → Outcome
answered t o = event t o.port o.event

abbrev pub after : Table → Order → Table
after t o = (answered t o).table

-- the table after a list of orders
unfoldable pub ran : Table → List Order → Table
ran t [] = t
ran t (o ∷ os) = ran (after t o) os

-- the table reached from the fresh table of d ports by a list of orders; a port has the critical status
abbrev pub reached : ℕ → List Order → Table
reached d os = ran (fresh_table d) os

abbrev pub Critical : Table → ℕ → Type 0
Critical t k = (port_at t k).status ≡ CS

-- the orders that n pairs of numbers, port and event, stand for
unfoldable pub orders : ℕ → List ℕ → List Order
orders zero xs = []
orders (suc n) xs = order (get_or xs 0 0) (get_or xs 1 0) ∷ orders n (drop 2 xs)

-- what an order answers, in one number: the answer's, 256 times the cached and 65,536 times the distributed cost; and what a list of orders answers
unfoldable pub code_of : Outcome → ℕ
code_of o = answer_code o.answer + 256 * o.cached + 65536 * o.distributed

unfoldable pub codes : Table → List Order → List ℕ
codes t [] = []
codes t (o ∷ os) = code_of (answered t o) ∷ codes (after t o) os

-- a run with one check of the table, at its start. A bad table is refused: it stays as it is, and so do the places for the answers. On a good one the
-- run carries out as many orders as there are pairs of numbers and places, and puts what each answers in its place
abbrev pub orders_for : List ℕ → List ℕ → List Order
orders_for xs places = orders (min (length xs / 2) (length places)) xs

unfoldable pub run : Table → List Order → Made
run t os = cond (good t) (record { table = ran t os; answer = Done }) (record { table = t; answer = BadTable (bad_in t) })

unfoldable pub run_answers : Table → List Order → List ℕ → List ℕ
run_answers t os places = cond (good t) (sets places 0 (codes t os)) places

-- the order is carried out, and is such an event at port k
unfoldable pub done : ℕ → ℕ → Table → Order → Bool
done k e t o = eqb o.port k && eqb o.event e && eqb (number_of (answered t o).answer) 0

-- the order is a step of port k carried out at one of these points
unfoldable pub steps_at : ℕ → List ℕ → Table → Order → Bool
steps_at k ns t o = done k stepping t o && one_of (port_at t k).point ns

-- the order is a grant: a swap done at x3. It names the candidate
unfoldable pub grants : Table → Order → Bool
grants t o =
    steps_at o.port (23 ∷ 33 ∷ 43 ∷ []) t o
    && same t.shared.word (word 0 (port_at t o.port).work.seenowner (port_at t o.port).work.seenspin)

-- the grants that name others than k, up to the moment when bit k is cleared or a grant names k
unfoldable pub passed_over : ℕ → Table → List Order → ℕ
passed_over k t [] = 0
passed_over k t (o ∷ os) =
    cond (grants t o && eqb (port_at t o.port).work.candidate k) 0
    (cond (stands (after t o).shared.active k) (cond (grants t o) 1 0 + passed_over k (after t o) os) 0)

-- what port k's own steps cost in one model, up to its step at 19 or its next crash
unfoldable pub passage_cost : (Outcome → ℕ) → ℕ → Table → List Order → ℕ
passage_cost cost k t [] = 0
passage_cost cost k t (o ∷ os) =
    cond (done k stepping t o) (cost (answered t o)) 0
    + cond (done k crash t o || (done k stepping t o && eqb (port_at t k).point 19)) 0 (passage_cost cost k (after t o) os)

-- no order of the list is a step of port k
unfoldable pub stepless : ℕ → List Order → Bool
stepless k [] = true
stepless k (o ∷ os) = not (eqb o.port k && eqb o.event stepping) && stepless k os
