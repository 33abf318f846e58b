-- What is proved of the lock, for a reader who knows the definitions and no proof. A statement stands under a comment that says in words what it means
-- and which sentence of the demands or of document 01 it is; the line below it names its proof.
use Rattle.std.specs.Prelude.{◌≡◌, ◌≢◌, true, false, ◌&&◌, ◌||◌, List, [], ◌∷◌, ℕ, ◌-◌, ◌*◌, ◌≤◌, ◌<◌, ◌^◌, get_or}
use Rattle.std.proofs.Common.{sym, subst, ap, ◌∙◌}
use Rattle.model.specs.declared.Table.{Table}
use Rattle.model.specs.declared.Outcome.{Outcome}
use Rattle.model.specs.declared.Made.{Made}
use Rattle.model.specs.declared.Answer.TheVariants.{BadTable}
use Rattle.model.specs.Table.{room, size_good, Sized, port_at, fresh_table}
use Rattle.model.specs.Mask.{stands, joined, alone, added}
use Rattle.model.specs.Ring.{next, distance}
use Rattle.model.specs.Points.{none, p11, point_of}
use Rattle.model.specs.Good.{named, whole, room_empty, rules, nowhere, good, bad_in}
use Rattle.model.specs.Layout.{size}
use Rattle.model.specs.Cost.{free}
use Rattle.model.specs.Event.{number_of, enter, stepping, crash, refusal, event, fresh}
use Rattle.model.specs.Run.{Order, order, after, ran, reached, Critical, run, run_answers, done, steps_at, passed_over, passage_cost, stepless}
use Rattle.model.specs.Paid.{paid_event}
use Rattle.model.proofs.Laws.Mask.{set_own, set_other, cleared-own, cleared-other, joined-own, joined-other, alone-own, alone-other}
use Rattle.model.proofs.Laws.Ring.{distance-own, distance-le, next-stands, next-nearest}
use Rattle.model.proofs.Laws.Points.{unnamed, named-point}
use Rattle.model.proofs.Laws.Faults.{bad-event, good-other, lowest, bad-rule, bad-whole, bad-field, bad-inside}
use Rattle.model.proofs.Laws.Cases.{refused-free, orders-free}
use Rattle.model.proofs.Laws.After.{fresh-sized}
use Rattle.model.proofs.Laws.Kept.{good-fresh, good-after, good-ran, room_fits}
use Rattle.model.proofs.Laws.Paid.{paid-event}
use Rattle.model.proofs.Laws.Reached.{reached-sized, reached-safe, reached-d}
use Rattle.model.proofs.Laws.Life.{row_at}
use Rattle.model.proofs.Laws.Only.{only-word, only-bit, only-go, only-status}
use Rattle.model.proofs.Laws.Exclusion.{one-critical, keeps-critical, returns-inside}
use Rattle.model.proofs.Laws.Grants.{done-steps}
use Rattle.model.proofs.Laws.Waiting.{waiting}
use Rattle.model.proofs.Laws.Passage.{passage}

-- Demand 2, 'exactly the effect': two results that meet a promise are equal; first for a promise of any kind of result
pub one : {A : Type 0} {x r s : A} → r ≡ x → s ≡ x → r ≡ s
one p q = p ∙ sym q

pub event-one : (t : Table) (k e : ℕ) (r s : Outcome) → r ≡ event t k e → s ≡ event t k e → r ≡ s
event-one t k e r s = one

pub fresh-one : (d : ℕ) (r s : Made) → r ≡ fresh d → s ≡ fresh d → r ≡ s
fresh-one d r s = one

pub run-one : (t : Table) (os : List Order) (r s : Made) → r ≡ run t os → s ≡ run t os → r ≡ s
run-one t os r s = one

pub answers_one : (t : Table) (os : List Order) (places r s : List ℕ) → r ≡ run_answers t os places → s ≡ run_answers t os places → r ≡ s
answers_one t os places r s = one

-- On a good table an order whose check has been paid is the event
pub paid-is-event : (t : Table) (k e : ℕ) → good t ≡ true → paid_event t k e ≡ event t k e
paid-is-event = paid-event

-- 'An event carried out on a good table gives a good table'; a fresh table is good. (A refused event gives the table that it got.)
pub fresh-good : (d : ℕ) → 1 ≤ d → d ≤ room → good (fresh_table d) ≡ true
fresh-good = good-fresh

pub event-good : (t : Table) (k e : ℕ) → Sized t → good t ≡ true → good (event t k e).table ≡ true
event-good t k e = good-after t (order k e)

-- Request R-2. A table is good exactly when nothing is answered: an event on a bad one answers what is bad, and on a good one never number 1
pub bad-answered : (t : Table) (k e : ℕ) → good t ≡ false → event t k e ≡ free (BadTable (bad_in t)) t
bad-answered = bad-event

pub good-unanswered : (t : Table) (k e : ℕ) → good t ≡ true → number_of (refusal t k e) ≢ 1
good-unanswered = good-other

-- 'the lowest place deciding': what is bad is the field of a rule that fails, and no rule that fails has a field with a lower place
pub bad-fails : (t : Table) → good t ≡ false → (i : ℕ) × (((get_or (rules t) i (true, whole)).0 ≡ false) × (bad_in t ≡ (get_or (rules t) i (true, whole)).1))
bad-fails = bad-rule

pub bad-lowest : (t : Table) (i : ℕ) → (get_or (rules t) i (true, whole)).0 ≡ false → (bad_in t).place ≤ (get_or (rules t) i (true, whole)).1.place
unfolding bad_in
bad-lowest t = lowest nowhere (rules t)

-- 'A D out of range, or room above D that isn't 0, is 1.0, before the rest, with port 0 and place 0': then, and only then
pub bad-as-a-whole : (t : Table) → (size_good t.shared.d && room_empty t) ≡ false → bad_in t ≡ whole
bad-as-a-whole = bad-whole

pub bad-in-a-field : (t : Table) → (size_good t.shared.d && room_empty t) ≡ true → good t ≡ false → 0 < (bad_in t).kind
bad-in-a-field = bad-field

-- 'the byte where the field begins in the image': it lies within the image
pub bad-within : (t : Table) → good t ≡ false → (bad_in t).place < size t.shared.d
bad-within = bad-inside

-- 'A refused event gives costs 0 and the table it got'
pub refused-nothing : (t : Table) (k e : ℕ) → (number_of (event t k e).answer ≡ 0 → ⊥) → event t k e ≡ free (event t k e).answer t
refused-nothing = refused-free

-- 'Only S costs anything'
pub only-steps-cost : (t : Table) (k e : ℕ) → (e ≡ stepping → ⊥) → ((event t k e).cached ≡ 0) × ((event t k e).distributed ≡ 0)
only-steps-cost = orders-free

-- 'Points .. are among those named here': the numbers that a good table allows are exactly those that stand for a point, so good tables and the steps go by
-- the same points
pub points-named : (n : ℕ) → (named n ≡ false → point_of n ≡ none) × (named n ≡ true → point_of n ≡ none → ⊥)
points-named n = (unnamed n, named-point n)

-- 'Next(o, a) is the first port after o whose bit stands in a, counted upward and round the ring, o itself last': it is a port of the set, and no port
-- of the set lies nearer after o
pub next-first : (d o a : ℕ) → o < d → 0 < a → a < 2 ^ d
    → (stands a (next d o a) ≡ true) × ((j : ℕ) → j < d → stands a j ≡ true → distance d o (next d o a) ≤ distance d o j)
next-first d o a h p l = (next-stands h p l, λ j i s. next-nearest a h i s)

-- 'o itself last': of all ports o lies farthest after itself
pub itself-last : (d o j : ℕ) → o < d → j < d → (distance d o o ≡ d) × (distance d o j ≤ d)
itself-last d o j h l = (distance-own h, distance-le h l)

-- 'Additions to ACTIVE wrap at 64 bits': the fetch-and-add of a port's bit sets that bit, that of its complement clears it, and no other bit changes
pub bit-set : (d m k : ℕ) → k < d → d ≤ 64 → m < 2 ^ d → stands m k ≡ false
    → (stands (added m (2 ^ k)) k ≡ true) × ((j : ℕ) → j ≢ k → stands (added m (2 ^ k)) j ≡ stands m j)
bit-set d m k l w h e = (set_own l w h e, λ j n. set_other l w h e n)

pub bit-cleared : (d m k : ℕ) → k < d → d ≤ 64 → m < 2 ^ d → stands m k ≡ true
    → (stands (added m (2 ^ 64 - 2 ^ k)) k ≡ false) × ((j : ℕ) → j ≢ k → stands (added m (2 ^ 64 - 2 ^ k)) j ≡ stands m j)
bit-cleared d m k l w h e = (cleared-own l w h e, λ j n. cleared-other l w h e n)

-- Copy sets: a reader joins the holders and no other port comes or goes; a port that writes is sole holder
pub holder-joined : (m k : ℕ) → (stands (joined m k) k ≡ true) × ((j : ℕ) → j ≢ k → stands (joined m k) j ≡ stands m j)
holder-joined m k = (joined-own m k, λ j n. joined-other m n)

pub sole-holder : (k : ℕ) → (stands (alone k) k ≡ true) × ((j : ℕ) → j ≢ k → stands (alone k) j ≡ false)
sole-holder k = (alone-own k, λ j n. alone-other n)

-- From here on: for D from 1 to the room, over any orders from a fresh table, refused ones included
module _ (d : ℕ) (some : 1 ≤ d) (fits : d ≤ room) where
  -- every table so reached is good, and has d ports
  pub always-good : (os : List Order) → good (reached d os) ≡ true
  always-good os = good-ran (fresh_table d) os (fresh-sized d) (good-fresh d some fits)

  -- Demand 3, 'never two ports with critical status'
  pub exclusion : (os : List Order) (j k : ℕ) → Critical (reached d os) j → Critical (reached d os) k → j ≡ k
  exclusion os = one-critical (reached d os) (reached-safe d os)

  -- a port that is inside, at point 11, has the critical status; so never two ports are inside
  pub inside-critical : (os : List Order) (k : ℕ) → (port_at (reached d os) k).point ≡ 11 → Critical (reached d os) k
  inside-critical os k e = row_at p11 ((reached-safe d os).life k) (ap point_of e)

  pub one_inside : (os : List Order) (j k : ℕ) → (port_at (reached d os) j).point ≡ 11 → (port_at (reached d os) k).point ≡ 11 → j ≡ k
  one_inside os j k p q = exclusion os j k (inside-critical os j p) (inside-critical os k q)

  -- Demand 3, 'a port that crashed with it keeps it until it has left': a port with critical status keeps it under every order but its own step at 13
  pub keeps : (os : List Order) (k : ℕ) (o : Order) → Critical (reached d os) k → steps_at k (13 ∷ []) (reached d os) o ≡ false
      → Critical (after (reached d os) o) k
  keeps os k o = keeps-critical (reached d os) k o (reached-sized d os) (reached-safe d os)

  -- 'and its next own step puts it inside': after a crash, and whatever orders follow that are no step of its own, its next step puts it at point 11
  pub returns : (os : List Order) (k : ℕ) (more : List Order) → Critical (reached d os) k → stepless k more ≡ true
      → (port_at (after (ran (after (reached d os) (order k crash)) more) (order k stepping)) k).point ≡ 11
  returns os k more = returns-inside good-after (reached d os) k more (reached-sized d os) (reached-safe d os) (always-good os)

  -- 'a port whose bit is set waits for a bounded number of grants to others': from its step at 6 on, up to the moment when its bit is cleared or a grant
  -- names it, fewer than D times D grants name others
  pub waits : (os : List Order) (k : ℕ) (more : List Order) → done k stepping (reached d os) (order k stepping) ≡ true
      → (port_at (reached d os) k).point ≡ 6
      → passed_over k (after (reached d os) (order k stepping)) more < d * d
  waits os k more e p =
      subst (λ (n : ℕ). passed_over k (after (reached d os) (order k stepping)) more < n * n) (reached-d d os)
      (waiting good-after room_fits (reached d os) k more (reached-sized d os) (always-good os)
      (done-steps (reached d os) (order k stepping) k e).port e p)

  -- 'From a fresh table no passage costs more than 33 in either model': from E or X at a port until its step at 19 or its next X
  pub passage-limit : (os : List Order) (k : ℕ) (o : Order) (more : List Order)
      → (done k enter (reached d os) o || done k crash (reached d os) o) ≡ true
      → (passage_cost (λ u. u.cached) k (after (reached d os) o) more ≤ 33) × (passage_cost (λ u. u.distributed) k (after (reached d os) o) more ≤ 33)
  passage-limit os k o more = passage (reached d os) k o more (reached-sized d os) (reached-safe d os).life

  -- For whoever builds on the lock: which orders change the word, a port's bit in ACTIVE, its GO and its STATUS
  pub word-changes : (os : List Order) (o : Order) → steps_at o.port (17 ∷ 23 ∷ 33 ∷ 43 ∷ []) (reached d os) o ≡ false
      → (after (reached d os) o).shared.word ≡ (reached d os).shared.word
  word-changes os o = only-word (reached d os) o (reached-sized d os)

  pub bit-changes : (os : List Order) (k : ℕ) (o : Order) → steps_at k (6 ∷ 15 ∷ []) (reached d os) o ≡ false
      → stands (after (reached d os) o).shared.active k ≡ stands (reached d os).shared.active k
  bit-changes os k o = only-bit (reached d os) o (reached-sized d os) room_fits k

  pub go-changes : (os : List Order) (k : ℕ) (o : Order) → steps_at k (4 ∷ 18 ∷ []) (reached d os) o ≡ false
      → (port_at (after (reached d os) o) k).go ≡ (port_at (reached d os) k).go
  go-changes os k o = only-go (reached d os) o (reached-sized d os) k

  pub status-changes : (os : List Order) (k : ℕ) (o : Order) → steps_at k (10 ∷ 12 ∷ 13 ∷ 19 ∷ []) (reached d os) o ≡ false
      → (port_at (after (reached d os) o) k).status ≡ (port_at (reached d os) k).status
  status-changes os k o = only-status (reached d os) o (reached-sized d os) k
