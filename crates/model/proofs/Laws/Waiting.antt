-- How long a port waits: from the step at 6 that sets its bit, fewer than D times D grants name others before one names it or its bit is cleared.
use Rattle.std.specs.Prelude.{◌≡◌, refl, Bool, true, false, cond, ◌&&◌}
use Rattle.std.proofs.Common.{sym, ◌∙◌, ap, le_trans, lt_of_lt_of_le, arith}
use Rattle.std.proofs.lemmas.Bool.{false≢true, eqb-false}
use mathlib.Core.List.{List, [], ◌∷◌}
use Prim.Native.Nat.{ℕ, ◌+◌, ◌*◌, ◌≤◌, ◌<◌}
use Rattle.std.proofs.Math.Decide.{ℕ_discrete}
use Rattle.std.proofs.Math.Dec.{eqb}
use Rattle.model.specs.declared.Port.{Port}
use Rattle.model.specs.declared.Table.{Table}
use Rattle.model.specs.Table.{room, port_at, put_port, Sized}
use Rattle.model.specs.Mask.{stands}
use Rattle.model.specs.Points.{p6, point_of, candidate_place, settled}
use Rattle.model.specs.Good.{good}
use Rattle.model.specs.Event.{stepping, ordered}
use Rattle.model.specs.Parts.Moves.{step}
use Rattle.model.specs.Parts.Steps.{view_of, move_of, stepped}
use Rattle.model.specs.Run.{Order, order, after, done, grants, passed_over}
use Rattle.model.proofs.Laws.Tests.{split}
use Rattle.model.proofs.Laws.Mask.{within-lt, set_own}
use Rattle.model.proofs.Laws.Rules.{shared-rules, port-rules}
use Rattle.model.proofs.Laws.Cases.{Allowed, enters, crashes, calls_off, leaves, Ordered, Stepped, Case, was_refused, was_ordered, was_stepped, cases}
use Rattle.model.proofs.Laws.Own.{number, move_at}
use Rattle.model.proofs.Laws.After.{after-sized, after-d, step_after}
use Rattle.model.proofs.Laws.Ports.{put-own, put_other, Left, own-left, other-left, left-rest}
use Rattle.model.proofs.Laws.Grants.{done-steps, refused-grants, ordered-grants, stepped-grants}
use Rattle.model.proofs.Laws.Interval.{potential, potential-pos, potential-le, potential-stays, potential-falls}
use Rattle.model.proofs.Laws.Turn.{strays, Turn, keeps, passes, turn}

-- the port that a grant names
abbrev candidate_of : Table → Order → ℕ
candidate_of t o = (port_at t o.port).work.candidate

-- the potential of port k in a table of d ports: of the ports that pass k over, and of the way from the word's owner to k.
-- From table t to table u it does not rise, and where b says so it falls
abbrev astray : ℕ → ℕ → Table → ℕ → Bool
astray d k t r = strays d k (port_at t r)

abbrev ahead : ℕ → ℕ → Table → ℕ
ahead d k t = potential d k (astray d k t) t.shared.word.owner

abbrev Spent : ℕ → Bool → Table → Table → Type 0
Spent k b t u = cond b 1 0 + ahead t.shared.d k u ≤ ahead t.shared.d k t

-- no event but a step gives its port a candidate
ordered-strays : (d k e : ℕ) (p : Port) → Allowed e p → strays d k (ordered e p) ≡ true → strays d k p ≡ true
unfolding strays candidate_place
ordered-strays d k e p (enters _ _ _ q) s = absurd (false≢true (rw q at s))
ordered-strays d k e p (crashes _ _ q) s = absurd (false≢true (rw q at s))
ordered-strays d k e p (calls_off _ _ q) s = rw q at s
ordered-strays d k e p (leaves _ _ q) s = absurd (false≢true (rw q at s))

-- a port whose spin a step sets passes k over as before
left-strays : (d k : ℕ) (t : Table) (r j : ℕ) (p : Port) → Left t r j p → strays d k (port_at (stepped t r).table j) ≡ strays d k p
unfolding strays
left-strays d k t r j p c = ap (strays d k) (left-rest t r j p c)

-- where only port r changes, and passes k over only if it did before, each port passes k over only if it did before
only-port : (d k r : ℕ) (t u : Table) → (astray d k u r ≡ true → astray d k t r ≡ true)
    → ((j : ℕ) → (j ≡ r → ⊥) → astray d k u j ≡ astray d k t j)
    → (j : ℕ) → astray d k u j ≡ true → astray d k t j ≡ true
only-port d k r t u own others j = elim (ℕ_discrete j r) [
  | yes q ↦ rw q own
  | no q ↦ λ s. sym (others j q) ∙ s
]

module _ (k : ℕ) (t : Table) (o : Order) (z : Sized t) (l : k < t.shared.d) where
  -- an event that is no step does not raise the potential
  ordered-spent : Ordered t o → Spent k false t (put_port t o.port (ordered o.event (port_at t o.port)))
  ordered-spent c = omega (arith, potential-stays d k t.shared.word.owner (astray d k t) (astray d k (put_port t o.port p)) mono)
    where
      d : ℕ
      d = t.shared.d

      p : Port
      p = ordered o.event (port_at t o.port)

      mono : (j : ℕ) → astray d k (put_port t o.port p) j ≡ true → astray d k t j ≡ true
      mono =
          only-port d k o.port t (put_port t o.port p)
          (rw (put-own t o.port p z c.fits) (ordered-strays d k o.event (port_at t o.port) c.allowed))
          (λ j q. ap (strays d k) (put_other t o.port j p q))

  -- nor does a step while bit k stands, and a grant that names another port lowers it
  stepped-turn : Stepped t o → stands t.shared.active k ≡ true → Turn k (view_of t o.port) (move_of t o.port)
  unfolding view_of move_of
  stepped-turn c s =
      let rules = port-rules t o.port c.sound c.port in
      turn k (view_of t o.port) rules.seenowner l s (point_of (port_at t o.port).point) (number _ _ rules.point refl)

  stepped-spent : Stepped t o → stands t.shared.active k ≡ true → (grants t o && eqb (candidate_of t o) k) ≡ false
      → Spent k (grants t o) t (stepped t o.port).table
  unfolding view_of
  stepped-spent c s n = go (stepped-turn c s)
    where
      d : ℕ
      d = t.shared.d

      u : Table
      u = (stepped t o.port).table

      own : astray d k u o.port ≡ strays d k (settled (move_of t o.port).own)
      own = left-strays d k t o.port o.port _ (own-left t o.port z c.fits)

      mono : (strays d k (settled (move_of t o.port).own) ≡ true → astray d k t o.port ≡ true)
          → (j : ℕ) → astray d k u j ≡ true → astray d k t j ≡ true
      mono m =
          only-port d k o.port t u (λ e. m (sym own ∙ e)) (λ j q. left-strays d k t o.port j _ (other-left t o.port j q))

      owner : u.shared.word.owner ≡ (move_of t o.port).word.owner
      owner = ap (λ w. w.owner) (step_after t o.port).word

      go : Turn k (view_of t o.port) (move_of t o.port) → Spent k (grants t o) t u
      go (keeps q w m) =
          rw (stepped-grants t o c, q, owner, w)
          (omega (arith, potential-stays d k t.shared.word.owner (astray d k t) (astray d k u) (mono m)))
      go (passes q w e i) =
          let granted : grants t o ≡ true = stepped-grants t o c ∙ q in
          let other : candidate_of t o ≡ k → ⊥ = eqb-false _ _ (rw granted at n) in
          let rules = port-rules t o.port c.sound c.port in
          let falls = potential-falls (shared-rules t c.sound).owner rules.candidate l other c.port (astray d k t) (astray d k u) in
          rw (granted, owner, w) (omega (arith, falls (mono (λ f. absurd (false≢true (sym e ∙ f)))) (own ∙ e) i))

  -- so no order raises it while bit k stands
  spent : stands t.shared.active k ≡ true → (grants t o && eqb (candidate_of t o) k) ≡ false → Spent k (grants t o) t (after t o)
  spent s n = go (cases t o)
    where
      go : Case t o → Spent k (grants t o) t (after t o)
      go (was_refused c) = rw (refused-grants t o c, c.kept) (omega arith)
      go (was_ordered c) = rw (ordered-grants t o c, c.table) (ordered-spent c)
      go (was_stepped c) = rw c.table (stepped-spent c s n)

-- the step at 6 takes its port to 20, where it has no candidate
six-strays : (t : Table) (k : ℕ) → Sized t → k < room → (port_at t k).point ≡ 6 → astray t.shared.d k (stepped t k).table k ≡ false
unfolding step strays settled candidate_place
six-strays t k z f q = left-strays t.shared.d k t k k _ (own-left t k z f) ∙ rw (move_at t k p6 (ap point_of q))

module _ (good-after : (t : Table) (o : Order) → Sized t → good t ≡ true → good (after t o) ≡ true) (room_fits : room ≤ 64) where
  -- it sets the port's bit
  six-stands : (t : Table) (k : ℕ) → good t ≡ true → k < t.shared.d → (port_at t k).point ≡ 6
      → stands (stepped t k).table.shared.active k ≡ true
  unfolding step
  six-stands t k g l q =
      let rules = shared-rules t g in
      rw ((step_after t k).active, move_at t k p6 (ap point_of q))
      (set_own l (le_trans rules.fits room_fits) (within-lt _ _ rules.active) ((port-rules t k g l).clear q))

  -- while bit k stands, fewer grants name others than the potential says
  passed : (k : ℕ) (t : Table) (os : List Order) → Sized t → good t ≡ true → k < t.shared.d → stands t.shared.active k ≡ true
      → passed_over k t os < ahead t.shared.d k t
  unfolding passed_over
  passed k t [] z g l s = potential-pos (astray t.shared.d k t) (shared-rules t g).owner l
  passed k t (o ∷ os) z g l s =
      let P : ℕ → Type 0 = λ (n : ℕ). n < ahead t.shared.d k t in
      let some = potential-pos (astray t.shared.d k t) (shared-rules t g).owner l in
      split P (grants t o && eqb (candidate_of t o) k) 0 _ (λ e. some)
      (λ e.
      split P (stands (after t o).shared.active k) _ 0
      (λ f.
      let rest = passed k (after t o) os (after-sized t o z) (good-after t o z g) (rw (after-d t o) l) f in
      omega (arith, spent k t o z l s e, rw (after-d t o) at rest))
      (λ f. some))

  -- fewer than D times D grants name others
  pub waiting : (t : Table) (k : ℕ) (os : List Order) → Sized t → good t ≡ true → k < t.shared.d
      → done k stepping t (order k stepping) ≡ true → (port_at t k).point ≡ 6
      → passed_over k (after t (order k stepping)) os < t.shared.d * t.shared.d
  waiting t k os z g l e q =
      let o = order k stepping in
      let c = done-steps t o k e in
      let sound = good-after t o z g in
      let rest = passed k (after t o) os (after-sized t o z) sound (rw (after-d t o) l) (rw c.table (six-stands t k g l q)) in
      lt_of_lt_of_le (rw (after-d t o) at rest)
      (potential-le (astray t.shared.d k (after t o)) (rw (after-d t o) at (shared-rules (after t o) sound).owner) l
      (rw c.table (six-strays t k z c.fits q)))
