-- Which orders are steps that are done, and which of those are grants.
use Rattle.std.specs.Prelude.{◌≡◌, Bool, true, false, ◌&&◌, ℕ, eqb}
use Rattle.std.proofs.Math.Path.{refl}
use Rattle.std.proofs.Common.{sym, ◌∙◌, ap}
use Rattle.std.proofs.lemmas.Bool.{false≢true}
use Rattle.std.proofs.Math.Bool.{and-false}
use borrow.Author.Tests.{eq-eqb, ne_eqb}
use Rattle.model.specs.declared.Word.{Word}
use Rattle.model.specs.declared.Port.{Port}
use Rattle.model.specs.declared.Table.{Table}
use Rattle.model.specs.Table.{word, port_at}
use Rattle.model.specs.Points.{candidate_spin_place}
use Rattle.model.specs.Step.{same}
use Rattle.model.specs.Event.{stepping}
use Rattle.model.specs.Run.{Order, done, steps_at, grants}
use Rattle.model.proofs.Laws.Cases.{Allowed, enters, crashes, calls_off, leaves, Refused, Ordered, Stepped, Case, was_refused, was_ordered, was_stepped, cases}

-- a port at x3 whose swap is done, where w is the word
unfoldable pub swaps : Word → Port → Bool
swaps w p = candidate_spin_place p.point && same w (word 0 p.work.seenowner p.work.seenspin)

-- the events that are no steps
not-stepping : (e : ℕ) (p : Port) → Allowed e p → eqb e stepping ≡ false
not-stepping e p (enters q _ _ _) = ap (λ (e : ℕ). eqb e stepping) q
not-stepping e p (crashes q _ _) = ap (λ (e : ℕ). eqb e stepping) q
not-stepping e p (calls_off q _ _) = ap (λ (e : ℕ). eqb e stepping) q
not-stepping e p (leaves q _ _) = ap (λ (e : ℕ). eqb e stepping) q

module _ (t : Table) (o : Order) where
  -- an order that is refused, and one that is no step, is no step done
  refused-undone : (j : ℕ) → Refused t o → done j stepping t o ≡ false
  unfolding done
  refused-undone j c = simp (ne_eqb _ 0 c.answer, and-false)

  ordered-undone : (j : ℕ) → Ordered t o → done j stepping t o ≡ false
  unfolding done
  ordered-undone j c = simp (not-stepping o.event _ c.allowed, and-false)

  pub done-steps : (j : ℕ) → done j stepping t o ≡ true → Stepped t o
  done-steps j e = go (cases t o)
    where
      go : Case t o → Stepped t o
      go (was_refused c) = absurd (false≢true (sym (refused-undone j c) ∙ e))
      go (was_ordered c) = absurd (false≢true (sym (ordered-undone j c) ∙ e))
      go (was_stepped c) = c

  -- a step that is carried out is done
  pub stepped-done : Stepped t o → done o.port stepping t o ≡ true
  unfolding done
  stepped-done c = rw (eq-eqb o.port o.port refl, eq-eqb o.event stepping c.event, c.answer)

  -- so neither is a grant; a step is one where its swap is done
  undone-grants : done o.port stepping t o ≡ false → grants t o ≡ false
  unfolding grants steps_at
  undone-grants e = rw e

  pub refused-grants : Refused t o → grants t o ≡ false
  refused-grants c = undone-grants (refused-undone o.port c)

  pub ordered-grants : Ordered t o → grants t o ≡ false
  ordered-grants c = undone-grants (ordered-undone o.port c)

  pub stepped-grants : Stepped t o → grants t o ≡ swaps t.shared.word (port_at t o.port)
  unfolding grants steps_at done swaps candidate_spin_place
  stepped-grants c = rw (eq-eqb o.port o.port refl, eq-eqb o.event stepping c.event, c.answer)
