-- Who holds the word: a port whose spin counts, and is set or was seen by a port at x5, holds it with that spin. So it is in a fresh table, and so
-- every order leaves it.
use Rattle.std.specs.Prelude.{◌≡◌, ◌⊎◌, true, ◌&&◌, [], ◌∷◌, ℕ, ◌+◌, ◌≤◌, ◌<◌}
use Rattle.std.proofs.Math.Path.{refl, ap}
use Rattle.std.proofs.Common.{sym, ◌∙◌, arith, eqb-true, le-ltb}
use Rattle.std.proofs.Math.Logic.{inl, inr}
use Rattle.std.proofs.lemmas.Bool.{false≢true}
use Rattle.std.proofs.Math.Bool.{and-eq-true_iff}
use Rattle.std.proofs.Math.Decide.{dec_lt, ℕ_discrete}
use Rattle.std.proofs.Math.ListN.{get_or-eq_default}
use Rattle.model.specs.declared.Port.{Port}
use Rattle.model.specs.declared.Table.{Table}
use Rattle.model.specs.Table.{room, no_port, port_at, put_port, fresh_table, Sized, size_good}
use Rattle.model.specs.Points.{x5, tens, point_of, settled}
use Rattle.model.specs.Good.{every_below, good}
use Rattle.model.specs.Parts.Good.{shared_good, port_empty, place_good, all_good}
use Rattle.model.specs.Event.{ordered}
use Rattle.model.specs.Parts.Steps.{view_of, move_of, stepped}
use Rattle.model.specs.Run.{Order, after}
use Rattle.model.proofs.Laws.Tests.{conjunct, every-below}
use Rattle.model.proofs.Laws.Listed.{good-all}
use Rattle.model.proofs.Laws.Rules.{port-rules}
use Rattle.model.proofs.Laws.Cases.{Allowed, enters, crashes, calls_off, leaves, after-case}
use Rattle.model.proofs.Laws.Own.{number_of_point, number}
use Rattle.model.proofs.Laws.After.{step_after}
use Rattle.model.proofs.Laws.Ports.{Sets, Left, unset, set_one, put-own, put_other, own-left, other-left, left-rest}
use Rattle.model.proofs.Laws.Life.{Life}
use Rattle.model.proofs.Laws.LifeAfter.{fresh-port, fresh-life, life-after}
use Rattle.model.proofs.Laws.Changes.{ordered-rest}
use Rattle.model.proofs.Laws.Turn.{each}
use Rattle.model.proofs.Laws.Effects.{Held, Counts, setting, Saw, Fate, stays, grants, releases, Origin, before, new, Effect, effect}

-- port j has a spin that counts, and holds the word with it; port r at x5 has seen spin g of port j
abbrev CountsAt : Table → ℕ → Type 0
CountsAt t j = Counts (port_at t j).status (port_at t j).go

abbrev HeldBy : Table → ℕ → Type 0
HeldBy t j = Held t.shared.word j (port_at t j).go

abbrev SawBy : Table → ℕ → ℕ → ℕ → Type 0
SawBy t r j g = Saw (port_at t r).point (port_at t r).work j g

-- what holds of every table from a fresh one by any orders: what goes with the point of each port; a port whose spin counts and has value 1 holds the
-- word; and so does one whose spin counts and was seen by a port at x5
pub record Safe (t : Table) : Type 0 where
  pub life : (j : ℕ) → Life (port_at t j)
  pub set : (j : ℕ) → CountsAt t j → (port_at t j).value ≡ 1 → HeldBy t j
  pub seen : (r j : ℕ) → CountsAt t j → SawBy t r j (port_at t j).go → HeldBy t j

-- where spin g of port j, with value a, comes from that counts now, by table t before: it counted then, and if its value is 1 now, it was so or a port
-- that had seen it sets it; or it is new, above the count of spins made then, with value 0
data Past (t : Table) (j g a : ℕ) : Type 0 where
  counted : CountsAt t j → g ≡ (port_at t j).go
      → (a ≡ 1 → ((port_at t j).value ≡ 1) ⊎ ((r : ℕ) × SawBy t r j (port_at t j).made))
      → Past t j g a
  made : (port_at t j).made < g → a ≡ 0 → Past t j g a

-- what an order does from table t to table u: port j still holds the word if its spin counted; a spin that counts has a past; and what a port at x5
-- has seen it had seen before, or it is who holds the word
abbrev SpinFrom : Table → Table → ℕ → Type 0
SpinFrom t u j = CountsAt u j → Past t j (port_at u j).go (port_at u j).value

abbrev SawFrom : Table → Table → ℕ → Type 0
SawFrom t u r = (j g : ℕ) → SawBy u r j g → SawBy t r j g ⊎ Held u.shared.word j g

record Change (t u : Table) : Type 0 where
  word : (j g : ℕ) → CountsAt t j → Held t.shared.word j g → Held u.shared.word j g
  spin : (j : ℕ) → SpinFrom t u j
  saw : (r : ℕ) → SawFrom t u r

-- such a change leaves a safe table safe, where no port at x5 has seen a spin above the count of its owner's
module _ (t u : Table) (h : Safe t) (c : Change t u) (bound : (r j g : ℕ) → SawBy t r j g → g ≤ (port_at t j).made)
    (l : (j : ℕ) → Life (port_at u j)) where
  set-still : (j : ℕ) → CountsAt u j → (port_at u j).value ≡ 1 → HeldBy u j
  set-still j o v = go (c.spin j o)
    where
      source : CountsAt t j → ((port_at t j).value ≡ 1) ⊎ ((r : ℕ) × SawBy t r j (port_at t j).made) → HeldBy t j
      source b (inl e) = h.set j b e
      source b (inr s) = h.seen s.0 j b (rw ((h.life j).latest b.some) s.1)

      go : Past t j (port_at u j).go (port_at u j).value → HeldBy u j
      go (counted b e f) = rw e (c.word j _ b (source b (f v)))
      go (made m e) = absurd (omega arith)

  seen-still : (r j : ℕ) → CountsAt u j → SawBy u r j (port_at u j).go → HeldBy u j
  seen-still r j o s = go (c.saw r j _ s)
    where
      from : SawBy t r j (port_at u j).go → Past t j (port_at u j).go (port_at u j).value → HeldBy u j
      from w (counted b e f) = rw e (c.word j _ b (h.seen r j b (rw e at w)))
      from w (made m e) = let n = bound r j _ w in absurd (omega arith)

      go : SawBy t r j (port_at u j).go ⊎ HeldBy u j → HeldBy u j
      go (inl w) = from w (c.spin j o)
      go (inr e) = e

  safe-still : Safe u
  safe-still = record { life = l; set = set-still; seen = seen-still }

-- an event that is no step shows its port nothing new
ordered-saw : (e : ℕ) (p : Port) (j g : ℕ) → Allowed e p → Saw (ordered e p).point (ordered e p).work j g → Saw p.point p.work j g
unfolding setting
ordered-saw e p j g (enters _ _ _ q) s = absurd (false≢true (rw q at s.point))
ordered-saw e p j g (crashes _ _ q) s = absurd (false≢true (rw q at s.point))
ordered-saw e p j g (calls_off _ _ q) s = rw q at s
ordered-saw e p j g (leaves _ _ q) s = absurd (false≢true (rw q at s.point))

-- the past of a spin where STATUS, GO and value of its port stay
same-past : (t : Table) (j : ℕ) (q : Port) → q.status ≡ (port_at t j).status → q.go ≡ (port_at t j).go → q.value ≡ (port_at t j).value
    → Counts q.status q.go → Past t j q.go q.value
same-past t j q s g a c = counted (rw (s, g) at c) g (λ one. inl (sym a ∙ one))

-- what holds of port k, and of every other, holds of each
pub each-port : (P : ℕ → Type 0) (k : ℕ) → P k → ((j : ℕ) → (j ≡ k → ⊥) → P j) → (j : ℕ) → P j
each-port P k own others j = elim (ℕ_discrete j k) [
  | yes e ↦ rw e own
  | no n ↦ others j n
]

module _ (t : Table) (k : ℕ) (z : Sized t) (fits : k < room) where
  -- an event of port k that is no step
  ordered-change : (e : ℕ) → Allowed e (port_at t k) → Change t (put_port t k (ordered e (port_at t k)))
  ordered-change e a =
      let p = port_at t k in
      let q = ordered e p in
      let u = put_port t k q in
      let rest = ordered-rest e p a in
      record {
        word = λ j g b h. h;
        spin =
            each-port (SpinFrom t u) k
            (rw (put-own t k q z fits)
            (same-past t k q (ap (λ (p : Port). p.status) rest) (ap (λ (p : Port). p.go) rest) (ap (λ (p : Port). p.value) rest)))
            (λ j n. rw (put_other t k j q n) (same-past t j (port_at t j) refl refl refl));
        saw =
            each-port (SawFrom t u) k
            (rw (put-own t k q z fits) (λ j g s. inl (ordered-saw e p j g a s)))
            (λ r n. rw (put_other t k r q n) (λ j g s. inl s));
      }

  -- a step that sets a spin has seen it
  sets-saw : Life (port_at t k) → (j : ℕ) → Sets t k j → SawBy t k j (port_at t j).made
  unfolding setting number_of_point tens
  sets-saw l j w =
      record {
        point = ap setting (number _ (x5 w.tens) l.point w.point) ∙ each (λ x. setting (tens x + 5)) refl refl refl w.tens;
        owner = w.owner;
        spin = w.spin;
      }

  -- a step of port k, by what it does to the word, to k's spin and to what k has seen
  stepped-change : Life (port_at t k) → Effect (view_of t k) (settled (move_of t k).own) (move_of t k).word → Change t (stepped t k).table
  unfolding view_of
  stepped-change l f =
      record {
        word = λ j g b h. rw (step_after t k).word (word j g b h f.word);
        spin = each-port (SpinFrom t u) k (own-past (own-left t k z fits)) (λ j n. other-past j (other-left t k j n));
        saw =
            each-port (SawFrom t u) k
            (λ j g s. inr (rw (step_after t k).word (f.saw (rw (left-rest t k k _ (own-left t k z fits)) at s))))
            (λ r n. rw (left-rest t k r _ (other-left t k r n)) (λ j g s. inl s));
      }
    where
      u : Table
      u = (stepped t k).table

      word : (j g : ℕ) → CountsAt t j → Held t.shared.word j g → Fate (view_of t k) (move_of t k).word → Held (move_of t k).word j g
      word j g b h (stays e) = rw e h
      word j g b h (grants e n) = absurd (omega arith)
      word j g b h (releases r n e) =
          let owner : j ≡ k = sym h.owner ∙ n.owner in
          let c : CountsAt t k = rw owner at b in
          absurd (omega arith)

      origin-unset : {g a : ℕ} → Origin (port_at t k) g a → Past t k g a
      origin-unset (before b e a) = counted b e (λ one. inl (sym a ∙ one))
      origin-unset (new n e a) = made (omega arith) a

      origin-set : {g a : ℕ} → Sets t k k → Origin (port_at t k) g a → Past t k g 1
      origin-set w (before b e a) = counted b e (λ _. inr (k, sets-saw l k w))
      origin-set w (new n e a) = let clash : ◌≡◌ {A = ℕ} 0 1 = cc (ap point_of n) in absurd (omega arith)

      own-past : Left t k k (settled (move_of t k).own) → SpinFrom t u k
      own-past (unset q) = rw q (λ c. origin-unset (f.spin c))
      own-past (set_one w q) = rw q (λ c. origin-set w (f.spin c))

      other-past : (j : ℕ) → Left t k j (port_at t j) → SpinFrom t u j
      other-past j (unset q) = rw q (same-past t j (port_at t j) refl refl refl)
      other-past j (set_one w q) = rw q (λ c. counted c refl (λ _. inr (k, sets-saw l j w)))

-- room kept for ports at or above D is all 0, so a port that is not at 0 is below D
idle-beyond : (t : Table) (k : ℕ) → Sized t → good t ≡ true → t.shared.d ≤ k → (port_at t k).point ≡ 0
unfolding all_good place_good port_empty
idle-beyond t k z e h =
    let places = ((and-eq-true_iff (size_good t.shared.d && shared_good t.shared _) (every_below room (place_good t))).0 (sym (good-all t) ∙ e)).1 in
    elim (dec_lt k room) [
      | yes f ↦
          let empty = rw (le-ltb k t.shared.d h) at (every-below room (place_good t) places k f) in
          eqb-true _ _ (conjunct _ (_ ∷ _ ∷ _ ∷ _ ∷ _ ∷ _ ∷ _ ∷ _ ∷ _ ∷ _ ∷ _ ∷ _ ∷ _ ∷ []) empty 0)
      | no f ↦ ap (λ (p : Port). p.point) (get_or-eq_default t.ports no_port (omega (arith, z.ports)))
    ]

pub busy-below : (t : Table) (k : ℕ) → Sized t → good t ≡ true → ((port_at t k).point ≡ 0 → ⊥) → k < t.shared.d
busy-below t k z e n = elim (dec_lt k t.shared.d) [
  | yes h ↦ h
  | no h ↦ absurd (n (idle-beyond t k z e (omega arith)))
]

-- a spin that a port at x5 has seen is made
saw-made : (t : Table) → Sized t → good t ≡ true → (r j g : ℕ) → SawBy t r j g → g ≤ (port_at t j).made
unfolding setting
saw-made t z e r j g s =
    let below = busy-below t r z e (λ q. false≢true (rw q at s.point)) in
    rw (s.owner, s.spin) at (port-rules t r e below).seenspin

-- a fresh table is safe, and every order leaves a safe table so
pub safe-fresh : (d : ℕ) → Safe (fresh_table d)
unfolding fresh_table
safe-fresh d =
    record {
      life = fresh-life d;
      set = λ j. rw (fresh-port room j) (λ c. absurd (omega arith));
      seen = λ r j. rw (fresh-port room j) (λ c. absurd (omega arith));
    }

pub safe-after : (t : Table) (o : Order) → Sized t → Safe t → Safe (after t o)
unfolding move_of view_of
safe-after t o z h =
    after-case t o (λ (u : Table). ((j : ℕ) → Life (port_at u j)) → Safe u) (λ l. h)
    (λ c. safe-still t _ h (ordered-change t o.port z c.fits o.event c.allowed) (saw-made t z c.sound))
    (λ c.
    let mine = h.life o.port in
    let f = effect (view_of t o.port) _ (number _ _ mine.point refl) mine.row in
    safe-still t _ h (stepped-change t o.port z c.fits mine f) (saw-made t z c.sound))
    (life-after t o z h.life)
