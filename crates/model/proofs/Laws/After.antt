-- The table after an order, but for the ports: the lengths of its lists, what all share, the copy sets of the ports, and what a step costs.
use Rattle.std.specs.Prelude.{◌≡◌, refl, true, List, ℕ, ◌<◌, length, get_or, set}
use Rattle.std.proofs.Common.{◌∙◌, ap, length-set, get_or-set_same, get_or-set_other}
use Rattle.std.proofs.lemmas.List.{length-replicate}
use Rattle.model.specs.declared.Work.{Work}
use Rattle.model.specs.declared.Port.{Port}
use Rattle.model.specs.declared.Copies.{Copies}
use Rattle.model.specs.declared.Shared.{Shared}
use Rattle.model.specs.declared.Table.{Table}
use Rattle.model.specs.declared.Touch.{Touch}
use Rattle.model.specs.declared.Charge.{Charge}
use Rattle.model.specs.declared.Cell.{Cell}
use Rattle.model.specs.declared.Cell.TheVariants.{Nothing, Status, Go, Spin, Active, Lock, CandidateGo, SeenSpin}
use Rattle.model.specs.Table.{room, Sized, no_port, no_copies, port_at, copies_at, put_port, fresh_table}
use Rattle.model.specs.Points.{settled}
use Rattle.model.specs.Good.{good}
use Rattle.model.specs.Step.{with_value}
use Rattle.model.specs.Parts.Charges.{home, charge, old, put_shared}
use Rattle.model.specs.Parts.Steps.{touch_of, home_of, move_of, shared_after, charge_of, marks, marked, stepped}
use Rattle.model.specs.Run.{Order, after}
use Rattle.model.proofs.Laws.Tests.{split}
use Rattle.model.proofs.Laws.Rules.{port-rules}
use Rattle.model.proofs.Laws.Cases.{after-case}

pub fresh-sized : (d : ℕ) → Sized (fresh_table d)
unfolding fresh_table
fresh-sized d = record { ports = length-replicate room _; copies = length-replicate room _ }

-- a record put at a port, and a step, keep the lengths
pub put-sized : (t : Table) (k : ℕ) (p : Port) → Sized t → Sized (put_port t k p)
put-sized t k p s = record { ports = length-set t.ports k p ∙ s.ports; copies = s.copies }

length_marked : (t : Table) (k : ℕ) (ps : List Port) → length (marked t k ps) ≡ length ps
unfolding marked
length_marked t k ps =
    split (λ (l : List Port). length l ≡ length ps)
    (marks t k)
    _
    _
    (λ e. length-set ps (home_of t k) (with_value 1 (get_or ps (home_of t k) no_port)))
    (λ e. refl)

pub step-sized : (t : Table) (k : ℕ) → Sized t → Sized (stepped t k).table
unfolding stepped
step-sized t k s =
    record {
      ports = length_marked t k (set t.ports k (settled (move_of t k).own)) ∙ length-set t.ports k (settled (move_of t k).own) ∙ s.ports;
      copies = length-set t.copies (home_of t k) (charge_of t k).copies ∙ s.copies;
    }

-- a touch changes nothing of what all share but the copy sets
abbrev with_copies : Shared → Shared → Shared
with_copies s c =
    record { active = s.active; activecopies = c.activecopies; wordcopies = c.wordcopies; d = s.d; word = s.word }

put_rest : (c : Cell) (m : ℕ) (s : Shared) → put_shared c m s ≡ with_copies s (put_shared c m s)
put_rest Nothing m s = refl
put_rest Status m s = refl
put_rest Go m s = refl
put_rest Spin m s = refl
put_rest Active m s = refl
put_rest Lock m s = refl
put_rest CandidateGo m s = refl
put_rest SeenSpin m s = refl

charge-rest : (u : Touch) (k : ℕ) (w : Work) (q : Port) (s : Shared) (c : Copies)
    → (charge u k w q s c).shared ≡ with_copies s (charge u k w q s c).shared
unfolding charge
charge-rest u k w q s c =
    split (λ (r : Charge). r.shared ≡ with_copies s r.shared) (old u.cell w q) _ _ (λ e. refl) (λ e. put_rest u.cell _ s)

-- what a step leaves but for the ports, and what it costs: ACTIVE and the word as the move has them, and the number of ports as it was
pub record StepAfter (t : Table) (k : ℕ) : Type 0 where
  pub active : (stepped t k).table.shared.active ≡ (move_of t k).active
  pub word : (stepped t k).table.shared.word ≡ (move_of t k).word
  pub d : (stepped t k).table.shared.d ≡ t.shared.d
  pub shared : (stepped t k).table.shared ≡ (charge_of t k).shared
  pub cached : (stepped t k).cached ≡ (charge_of t k).cached
  pub distributed : (stepped t k).distributed ≡ (charge_of t k).distributed

pub step_after : (t : Table) (k : ℕ) → StepAfter t k
unfolding stepped charge_of
step_after t k =
    let e = charge-rest (touch_of t k) k (port_at t k).work (port_at t (home_of t k)) (shared_after (move_of t k) t.shared) _ in
    record {
      active = ap (λ s. s.active) e;
      word = ap (λ s. s.word) e;
      d = ap (λ s. s.d) e;
      shared = refl;
      cached = refl;
      distributed = refl;
    }

-- a step changes the copy sets of one port alone, the one whose word it touches, and that is a port below D
pub copies-home : (t : Table) (k : ℕ) → Sized t → home_of t k < room → copies_at (stepped t k).table (home_of t k) ≡ (charge_of t k).copies
unfolding stepped
copies-home t k s h = get_or-set_same t.copies (home_of t k) _ no_copies (rw s.copies h)

pub copies-other : (t : Table) (k j : ℕ) → (j ≡ home_of t k → ⊥) → copies_at (stepped t k).table j ≡ copies_at t j
unfolding stepped
copies-other t k j n = get_or-set_other t.copies (home_of t k) j _ no_copies n

pub home_below : (t : Table) (k : ℕ) → good t ≡ true → k < t.shared.d → home_of t k < t.shared.d
unfolding home_of
home_below t k e h = go (touch_of t k).cell
  where
    go : (c : Cell) → home c k (port_at t k).work < t.shared.d
    go Nothing = h
    go Status = h
    go Go = h
    go Spin = h
    go Active = h
    go Lock = h
    go CandidateGo = (port-rules t k e h).candidate
    go SeenSpin = (port-rules t k e h).seenowner

-- every order keeps the lengths and the number of ports
pub after-sized : (t : Table) (o : Order) → Sized t → Sized (after t o)
after-sized t o s = after-case t o Sized s (λ c. put-sized t o.port _ s) (λ c. step-sized t o.port s)

pub after-d : (t : Table) (o : Order) → (after t o).shared.d ≡ t.shared.d
after-d t o =
    after-case t o (λ (u : Table). u.shared.d ≡ t.shared.d) refl (λ c. refl) (λ c. (step_after t o.port).d)
