-- What an event answers at a port that there is, for some events together.
use Rattle.std.specs.Prelude.{◌≡◌, Bool, cond, ◌||◌, ℕ, ◌≤◌, ◌<◌}
use Rattle.std.proofs.Math.Path.{refl}
use Rattle.std.proofs.Math.Bool.{true, false}
use Rattle.std.proofs.Common.{arith}
use borrow.Author.Tests.{eqb-false, eq-eqb, ne_eqb, le-leb, lt-leb}
use Rattle.std.proofs.Math.Dec.{eqb}
use Rattle.model.specs.declared.Port.{Port}
use Rattle.model.specs.declared.Answer.TheVariants.{Done, NoSuchEvent, Idle}
use Rattle.model.specs.Event.{first_of, refusals}

module _ (e : ℕ) (p : Port) where
  -- a crash or a call-off
  pub crash-or-call-off : (e ≡ 1 → ⊥) → (e ≡ 2 → ⊥) → 1 ≤ e → e < 5 → first_of (refusals e p) ≡ cond (eqb p.point 0) Idle Done
  unfolding first_of refusals
  crash-or-call-off a b l h =
      rw (
        le-leb 1 e l,
        le-leb e 5 (omega (arith, h)),
        ne_eqb e 1 a,
        ne_eqb e 2 b,
        ne_eqb e 5 (λ q. absurd (omega (arith, q, h))),
        either (eqb e 3) refl,
      )
    where
      either : (x : Bool) → eqb e 3 ≡ x → (eqb e 3 || eqb e 4) ≡ true
      either true q = rw q
      either false q = rw q (eq-eqb e 4 (omega (arith, a, b, l, h, eqb-false e 3 q)))

  -- no event
  pub below-events : e < 1 → first_of (refusals e p) ≡ NoSuchEvent
  unfolding first_of refusals
  below-events h = rw (lt-leb 1 e h)

  pub above-events : 1 ≤ e → 5 < e → first_of (refusals e p) ≡ NoSuchEvent
  unfolding first_of refusals
  above-events l h = rw (le-leb 1 e l, lt-leb e 5 h)
