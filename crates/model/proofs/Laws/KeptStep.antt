-- A step on a good table makes a good table.
use Rattle.std.specs.Prelude.{◌≡◌, refl, Bool, true, ℕ, ◌≤◌, ◌<◌}
use Rattle.std.proofs.Common.{◌∙◌, ap, arith, pow_pos}
use Rattle.std.proofs.Math.Decide.{ℕ_discrete}
use Rattle.model.specs.declared.Port.{Port}
use Rattle.model.specs.declared.Table.{Table}
use Rattle.model.specs.Table.{room, most, port_at, copies_at, Sized}
use Rattle.model.specs.Mask.{stands}
use Rattle.model.specs.Points.{settled}
use Rattle.model.specs.Good.{good}
use Rattle.model.specs.Parts.Good.{port_empty}
use Rattle.model.specs.Parts.Steps.{touch_of, home_of, move_of, copies_after, charge_of, stepped}
use Rattle.model.proofs.Laws.Tests.{split}
use Rattle.model.proofs.Laws.After.{step_after, copies-home, copies-other, home_below}
use Rattle.model.proofs.Laws.Ports.{Left, unset, set_one, own-left, other-left, left-rest}
use Rattle.model.proofs.Laws.Sound.{made_of, Fit, SharedCopies, PortCopies, Sound, good-sound, sound-good}
use Rattle.model.proofs.Laws.Settled.{settled-fit}
use Rattle.model.proofs.Laws.KeptOwn.{Moved, moved}
use Rattle.model.proofs.Laws.KeptCopies.{charge-below, charge-spin}
use Rattle.model.proofs.Laws.KeptPorts.{word-grows, value-fit, grown, ports-fit}

module _ (t : Table) (k : ℕ) (z : Sized t) (s : Sound t) (h : k < t.shared.d) (l : home_of t k < t.shared.d)
    (m : Moved t k (move_of t k).own (move_of t k).active (move_of t k).word) where
  -- the table after the step
  abbrev now : Table
  now = (stepped t k).table

  -- what is left of a record meets the rules that the record meets
  left-made : (j : ℕ) (p : Port) → Left t k j p → made_of now j ≡ p.made
  left-made j p e = ap (λ (q : Port). q.made) (left-rest t k j p e)

  left-fit : {d : ℕ} {made : ℕ → ℕ} {bit : Bool} (j : ℕ) (p : Port) → Left t k j p → made_of t j ≤ p.made → Fit d made bit p
      → Fit d made bit (port_at now j)
  left-fit j p (unset e) g f = rw e f
  left-fit j p (set_one w e) g f = rw e (value-fit _ _ _ p (omega (arith, w.made)) f)

  -- every port: that of the step with its settled record, and the others with what stood there
  own : Left t k k (settled (move_of t k).own)
  own = own-left t k z (omega (arith, s.fits))

  grows : (j : ℕ) → made_of t j ≤ made_of now j
  unfolding settled
  grows = grown t now k (rw (left-made k _ own) m.grows) (λ j n. left-made j _ (other-left t k j n))

  ports : (j : ℕ) → j < t.shared.d → Fit t.shared.d (made_of now) (stands (move_of t k).active j) (port_at now j)
  unfolding settled
  ports =
      ports-fit t now k t.shared.d t.shared.active (move_of t k).active grows m.others
      (left-fit k _ own m.grows (settled-fit _ _ _ _ m.bounds m.enters))
      (λ j i n. left-fit j _ (other-left t k j n) (omega arith) (s.port j i))

  -- the room kept for ports at or above D is neither set nor touched
  empty : (j : ℕ) → t.shared.d ≤ j → j < room → port_empty (port_at now j) (copies_at now j) ≡ true
  empty j n r = rw (copies-other t k j (omega arith), same (other-left t k j (omega arith))) (s.empty j n r)
    where
      same : Left t k j (port_at t j) → port_at now j ≡ port_at t j
      same (unset e) = e
      same (set_one w e) = absurd (omega (arith, w.owner, (s.port k h).bounds.seenowner))

  -- the copy sets of the touched word's port, with none of a spin that is new; and all copy sets after the touch
  unspun : PortCopies t.shared.d (copies_after (move_of t k) (copies_at t (home_of t k)))
  unspun =
      let c = copies_at t (home_of t k) in
      split (λ (n : ℕ). PortCopies t.shared.d (record { status = c.status; go = c.go; spin = n })) (move_of t k).makes 0 c.spin
      (λ e. omega (arith, (s.copies (home_of t k) l).0, pow_pos t.shared.d))
      (λ e. (s.copies (home_of t k) l).0)

  charged : SharedCopies t.shared.d (charge_of t k).shared × PortCopies t.shared.d (charge_of t k).copies
  unfolding charge_of
  charged =
      charge-below t.shared.d _ _ (omega (arith, s.shared)) unspun (touch_of t k) k (port_at t k).work (port_at t (home_of t k)) h

  charged-spin : made_of t (home_of t k) ≡ 0 → (charge_of t k).copies.spin ≡ 0
  unfolding charge_of
  charged-spin e =
      charge-spin (touch_of t k) k (port_at t k).work (port_at t (home_of t k)) _ _ e
      ∙ split (λ (n : ℕ). n ≡ 0) (move_of t k).makes 0 _ (λ q. refl) (λ q. (s.copies (home_of t k) l).1 e)

  copies : (j : ℕ) → j < t.shared.d → PortCopies t.shared.d (copies_at now j) × (made_of now j ≡ 0 → (copies_at now j).spin ≡ 0)
  copies j i = elim (ℕ_discrete j (home_of t k)) [
    | yes q ↦ rw (q, copies-home t k z (omega (arith, s.fits))) (charged.1, λ e. charged-spin (omega (arith, grows (home_of t k))))
    | no n ↦ rw (copies-other t k j n) ((s.copies j i).0, λ e. (s.copies j i).1 (omega (arith, grows j)))
  ]

  -- all of that together
  step-sound : Sound now
  step-sound =
      let a = step_after t k in
      rw (a.d, a.active, a.word)
      (record {
        some = s.some;
        fits = s.fits;
        bits = m.bits;
        word = word-grows t.shared.d (made_of t) (made_of now) grows _ m.word;
        port = ports;
        shared = rw a.shared charged.0;
        copies = copies;
        empty = empty;
      })

-- the step of a port below D that has a spin left to make where it is at 4
pub step-good : (t : Table) (k : ℕ) → Sized t → good t ≡ true → k < t.shared.d → t.shared.d ≤ 64
    → ((port_at t k).point ≡ 4 → made_of t k ≡ most → ⊥) → good (stepped t k).table ≡ true
step-good t k z g h w u = sound-good _ (step-sound t k z (good-sound t g) h (home_below t k g h) (moved t k g h w u))
