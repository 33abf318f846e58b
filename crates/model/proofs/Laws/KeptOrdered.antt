-- An event that is no step on a good table makes a good table.
use Rattle.std.specs.Prelude.{◌≡◌, refl, Bool, true, ℕ, ◌≤◌, ◌<◌}
use Rattle.std.proofs.Common.{ap, subst, arith, ne_eqb}
use Rattle.model.specs.declared.Port.{Port}
use Rattle.model.specs.declared.Table.{Table}
use Rattle.model.specs.Table.{port_at, put_port, Sized}
use Rattle.model.specs.Mask.{stands}
use Rattle.model.specs.Points.{one_of, own_place, seen_place, candidate_place, candidate_spin_place}
use Rattle.model.specs.Good.{named, good}
use Rattle.model.specs.Step.{at}
use Rattle.model.specs.Event.{ordered}
use Rattle.model.proofs.Laws.Cases.{Allowed, enters, crashes, calls_off, leaves}
use Rattle.model.proofs.Laws.Ports.{put-own, put_other}
use Rattle.model.proofs.Laws.Sound.{made_of, Enters, Rests, Fit, Sound, good-sound, sound-good}
use Rattle.model.proofs.Laws.KeptPorts.{word-grows, grown, ports-fit}

-- a port that goes on to a point at which the rules ask nothing, and where its working values have no more places
to-point : {d : ℕ} {made : ℕ → ℕ} {bit : Bool} (p : Port) (m n : ℕ) → p.point ≡ m → ((flag seenspin : ℕ) → Enters bit n flag seenspin)
    → (Rests m p.work → Rests n p.work) → Fit d made bit p → Fit d made bit (at n p)
to-point p m n q e r f =
    record { bounds = omega (arith, f.bounds); enters = e _ _; rests = r (subst (λ (i : ℕ). Rests i p.work) q f.rests) }

-- the record that the event leaves meets the rules, and has made no spin
ordered-fit : (d : ℕ) (made : ℕ → ℕ) (bit : Bool) (e : ℕ) (p : Port) → Allowed e p → Fit d made bit p
    → Fit d made bit (ordered e p) × ((ordered e p).made ≡ p.made)
unfolding named one_of own_place seen_place candidate_place candidate_spin_place
ordered-fit d made bit e p (enters _ q _ o) f = rw o (to-point p 0 1 q (search) (λ r. search) f, refl)
ordered-fit d made bit e p (crashes _ _ o) f =
    rw o (record { bounds = omega (arith, f.bounds); enters = search; rests = search }, refl)
ordered-fit d made bit e p (calls_off _ n o) f =
    let x = f.enters in
    rw o (record { bounds = omega (arith, f.bounds); enters = search (ne_eqb p.point 0 n); rests = f.rests }, refl)
ordered-fit d made bit e p (leaves _ q o) f = rw o (to-point p 11 13 q (search) (λ r. search) f, refl)

-- the table with such a record at port k, and that it stays good
module _ (t : Table) (k : ℕ) (p : Port) (s : Sound t) (h : k < t.shared.d) where
  abbrev now : Table
  now = put_port t k p

  -- no port's made falls
  grows : port_at now k ≡ p → p.made ≡ made_of t k → (j : ℕ) → made_of t j ≤ made_of now j
  grows own e =
      grown t now k (omega (arith, ap (λ (q : Port). q.made) own)) (λ j n. ap (λ (q : Port). q.made) (put_other t k j p n))

  put-sound : Sized t → Fit t.shared.d (made_of t) (stands t.shared.active k) p × (p.made ≡ made_of t k) → Sound now
  put-sound z f =
      let own = put-own t k p z (omega (arith, s.fits)) in
      let g = grows own f.1 in
      record {
        some = s.some;
        fits = s.fits;
        bits = s.bits;
        word = word-grows t.shared.d (made_of t) (made_of now) g _ s.word;
        port =
            ports-fit t now k t.shared.d t.shared.active t.shared.active g (λ j n. refl) (rw own f.0)
            (λ j l n. rw (put_other t k j p n) (s.port j l));
        shared = s.shared;
        copies = λ j l. ((s.copies j l).0, λ e. (s.copies j l).1 (omega (arith, g j)));
        empty = λ j l r. rw (put_other t k j p (omega arith)) (s.empty j l r);
      }

-- an event that is allowed at a port below D
pub ordered-good : (t : Table) (k e : ℕ) → Sized t → good t ≡ true → k < t.shared.d → Allowed e (port_at t k)
    → good (put_port t k (ordered e (port_at t k))) ≡ true
ordered-good t k e z g h a =
    let s = good-sound t g in
    sound-good _ (put-sound t k _ s h z (ordered-fit _ _ _ e _ a (s.port k h)))
