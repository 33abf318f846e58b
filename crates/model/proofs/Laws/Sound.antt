-- A good table by plain facts: what holds of a good one, and what is enough to make one good.
use Rattle.std.specs.Prelude.{◌≡◌, refl, Bool, true, not, ◌&&◌, [], ◌∷◌, ℕ, zero, suc, ◌^◌, ◌≤◌, ◌<◌, eqb, ltb}
use Rattle.std.proofs.Common.{sym, ◌∙◌, arith, eqb-true, eq-eqb, lt-ltb, le-ltb, le-leb}
use Rattle.std.proofs.Math.Bool.{and-eq-true_iff}
use Rattle.std.proofs.Math.Decide.{dec_lt}
use Rattle.model.specs.declared.Word.{Word}
use Rattle.model.specs.declared.Work.{Work}
use Rattle.model.specs.declared.Port.{Port}
use Rattle.model.specs.declared.Copies.{Copies}
use Rattle.model.specs.declared.Shared.{Shared}
use Rattle.model.specs.declared.Table.{Table}
use Rattle.model.specs.Table.{room, most, ABORT, port_at, copies_at, size_good}
use Rattle.model.specs.Mask.{stands}
use Rattle.model.specs.Points.{one_of, own_place, seen_place, candidate_place, candidate_spin_place}
use Rattle.model.specs.Good.{every_below, implies, named, good}
use Rattle.model.specs.Parts.Good.{shared_good, fields_good, work_good, copies_good, port_empty, port_good, place_good, all_good}
use Rattle.model.proofs.Laws.Tests.{◌and◌, implying, conjunct, every-below, below-every}
use Rattle.model.proofs.Laws.Mask.{within-lt, lt-within}
use Rattle.model.proofs.Laws.Listed.{good-all}
use Rattle.model.proofs.Laws.Rules.{PortRules, shared-rules, port-good, port-rules}

-- how many spins each port has made
abbrev pub made_of : Table → ℕ → ℕ
made_of t k = (port_at t k).made

-- the word, with what each port has made: its owner is below D, and its spin at most the owner's made
pub record WordBounds (d : ℕ) (made : ℕ → ℕ) (w : Word) : Type 0 where
  pub taken : w.taken ≤ 1
  pub owner : w.owner < d
  pub spin : w.spin ≤ made w.owner

-- the numbers of a port, with what each port has made; made 0 goes with value 0
pub record Bounds (d : ℕ) (made : ℕ → ℕ) (p : Port) : Type 0 where
  pub status : p.status ≤ ABORT
  pub flag : p.flag ≤ 1
  pub value : p.value ≤ 1
  pub most : p.made ≤ most
  pub go : p.go ≤ p.made
  pub unmade : p.value ≤ p.made
  pub seenowner : p.work.seenowner < d
  pub candidate : p.work.candidate < d
  pub own : p.work.own ≤ p.made
  pub seenspin : p.work.seenspin ≤ made p.work.seenowner
  pub candidatespin : p.work.candidatespin ≤ made p.work.candidate

-- the rules for the point of a port with this bit in ACTIVE, flag and seen spin: it is named; at 0 the flag is 0, at 6 the bit is clear, at 15 it
-- is set, at x5 the seen spin is above 0
pub record Enters (bit : Bool) (point flag seenspin : ℕ) : Type 0 where
  pub named : named point ≡ true
  pub idle : implies (eqb point 0) (eqb flag 0) ≡ true
  pub clear : implies (eqb point 6) (not bit) ≡ true
  pub set : implies (eqb point 15) bit ≡ true
  pub setting : implies (one_of point (25 ∷ 35 ∷ 45 ∷ [])) (ltb 0 seenspin) ≡ true

-- every working value is 0 outside its points
pub record Rests (point : ℕ) (w : Work) : Type 0 where
  pub own : implies (not (own_place point)) (eqb w.own 0) ≡ true
  pub seenowner : implies (not (seen_place point)) (eqb w.seenowner 0) ≡ true
  pub seenspin : implies (not (seen_place point)) (eqb w.seenspin 0) ≡ true
  pub candidate : implies (not (candidate_place point)) (eqb w.candidate 0) ≡ true
  pub candidatespin : implies (not (candidate_spin_place point)) (eqb w.candidatespin 0) ≡ true

-- all rules for the record p of a port
pub record Fit (d : ℕ) (made : ℕ → ℕ) (bit : Bool) (p : Port) : Type 0 where
  pub bounds : Bounds d made p
  pub enters : Enters bit p.point p.flag p.work.seenspin
  pub rests : Rests p.point p.work

-- no bit at D or above stands in the copy sets of what all share, and of a port's words
pub record SharedCopies (d : ℕ) (s : Shared) : Type 0 where
  pub active : s.activecopies < 2 ^ d
  pub word : s.wordcopies < 2 ^ d

pub record PortCopies (d : ℕ) (c : Copies) : Type 0 where
  pub status : c.status < 2 ^ d
  pub go : c.go < 2 ^ d
  pub spin : c.spin < 2 ^ d

-- the facts of a table, with D, ACTIVE and the word apart; and with its own
pub record SoundWith (t : Table) (d active : ℕ) (w : Word) : Type 0 where
  pub some : 1 ≤ d
  pub fits : d ≤ room
  pub bits : active < 2 ^ d
  pub word : WordBounds d (made_of t) w
  pub port : (k : ℕ) → k < d → Fit d (made_of t) (stands active k) (port_at t k)
  pub shared : SharedCopies d t.shared
  pub copies : (k : ℕ) → k < d → PortCopies d (copies_at t k) × (made_of t k ≡ 0 → (copies_at t k).spin ≡ 0)
  pub empty : (k : ℕ) → d ≤ k → k < room → port_empty (port_at t k) (copies_at t k) ≡ true

abbrev pub Sound : Table → Type 0
Sound t = SoundWith t t.shared.d t.shared.active t.shared.word

-- made 0 goes with value 0, as a bound
value_made : (v m : ℕ) → v ≤ 1 → (m ≡ 0 → v ≡ 0) → v ≤ m
value_made v zero h f = omega (arith, f refl)
value_made v (suc m) h f = omega arith

made-value : (v m : ℕ) → v ≤ m → implies (eqb m 0) (eqb v 0) ≡ true
made-value v m h = implying _ _ (λ (q : eqb m 0 ≡ true). eq-eqb v 0 (omega (arith, eqb-true m 0 q)))

-- the rules of a good table for the room at or above D, and for a port
place-empty : (t : Table) (k : ℕ) → good t ≡ true → t.shared.d ≤ k → k < room → port_empty (port_at t k) (copies_at t k) ≡ true
unfolding all_good place_good
place-empty t k e l h =
    let groups = (and-eq-true_iff (size_good t.shared.d && shared_good t.shared _) (every_below room (place_good t))).0 (sym (good-all t) ∙ e) in
    rw (le-ltb k t.shared.d l) at (every-below room (place_good t) groups.1 k h)

port-bounds : (t : Table) (k : ℕ) → PortRules t k → Bounds t.shared.d (made_of t) (port_at t k)
port-bounds t k r = omega (arith, value_made _ _ r.value r.unmade)

port-fit : (t : Table) (k : ℕ) → good t ≡ true → k < t.shared.d → Fit t.shared.d (made_of t) (stands t.shared.active k) (port_at t k)
unfolding fields_good work_good copies_good one_of
port-fit t k e h =
    let groups = conjunct _ (_ ∷ _ ∷ []) (port-good t k e h) in
    let fields = conjunct _ (_ ∷ _ ∷ _ ∷ _ ∷ _ ∷ _ ∷ _ ∷ _ ∷ _ ∷ []) (groups 0) in
    let work = conjunct (ltb (port_at t k).work.seenowner t.shared.d) (_ ∷ _ ∷ _ ∷ _ ∷ _ ∷ _ ∷ _ ∷ _ ∷ _ ∷ _ ∷ []) (groups 1) in
    record {
      bounds = port-bounds t k (port-rules t k e h);
      enters = record { named = fields 0; idle = fields 6; clear = fields 7; set = fields 8; setting = work 5 };
      rests = record { own = work 6; seenowner = work 7; seenspin = work 8; candidate = work 9; candidatespin = work 10 };
    }

-- the facts of a good table
pub good-sound : (t : Table) → good t ≡ true → Sound t
good-sound t e =
    let r = shared-rules t e in
    record {
      some = r.some;
      fits = r.fits;
      bits = within-lt _ _ r.active;
      word = record { taken = r.taken; owner = r.owner; spin = r.spin };
      port = λ k h. port-fit t k e h;
      shared = record { active = within-lt _ _ r.activecopies; word = within-lt _ _ r.wordcopies };
      copies = λ k h.
          let p = port-rules t k e h in
          (omega (arith, within-lt _ _ p.statuscopies, within-lt _ _ p.gocopies, within-lt _ _ p.spincopies), p.unmadecopies);
      empty = λ k l h. place-empty t k e l h;
    }

-- a table with these facts is good
fit-good : (t : Table) (k : ℕ) → Fit t.shared.d (made_of t) (stands t.shared.active k) (port_at t k)
    → PortCopies t.shared.d (copies_at t k) × (made_of t k ≡ 0 → (copies_at t k).spin ≡ 0) → port_good t k ≡ true
unfolding fields_good work_good copies_good one_of
fit-good t k f c =
    let b = f.bounds in
    let e = f.enters in
    let r = f.rests in
    (e.named
    and le-leb _ _ b.status
    and le-leb _ _ b.flag
    and le-leb _ _ b.value
    and le-leb _ _ b.most
    and le-leb _ _ b.go
    and e.idle
    and e.clear
    and e.set
    and made-value _ _ b.unmade)
    and (lt-ltb _ _ b.seenowner
    and lt-ltb _ _ b.candidate
    and le-leb _ _ b.own
    and le-leb _ _ b.seenspin
    and le-leb _ _ b.candidatespin
    and e.setting
    and r.own
    and r.seenowner
    and r.seenspin
    and r.candidate
    and r.candidatespin)
    and (lt-within _ _ c.0.status
    and lt-within _ _ c.0.go
    and lt-within _ _ c.0.spin
    and implying _ _ (λ q. eq-eqb _ _ (c.1 (eqb-true _ _ q))))

pub sound-good : (t : Table) → Sound t → good t ≡ true
unfolding all_good size_good shared_good place_good
sound-good t s =
    let w = s.word in
    good-all t ∙ (le-leb _ _ s.some and le-leb _ _ s.fits)
    and (le-leb _ _ w.taken
    and lt-within _ _ s.bits
    and lt-within _ _ s.shared.active
    and lt-within _ _ s.shared.word
    and lt-ltb _ _ w.owner
    and le-leb _ _ w.spin)
    and below-every room (place_good t) place
  where
    place : (k : ℕ) → k < room → place_good t k ≡ true
    place k h = elim (dec_lt k t.shared.d) [
      | yes l ↦ rw (lt-ltb k t.shared.d l) (fit-good t k (s.port k l) (s.copies k l))
      | no l ↦ rw (le-ltb k t.shared.d (omega arith)) (s.empty k (omega arith) h)
    ]
