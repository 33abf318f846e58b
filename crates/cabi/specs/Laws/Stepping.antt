-- A step put together from the single fields that it changes.
use Rattle.std.specs.Prelude.{◌≡◌, Bool, true, false, ℕ, ◌≤◌, ◌<◌, eqb, ltb, set}
use Rattle.std.proofs.Math.Path.{refl, ap}
use Rattle.std.proofs.Common.{sym, ◌∙◌, le_trans}
use borrow.Author.Tests.{eq-eqb, ne_eqb, lt-leb, le-leb, lt-ltb, eqb-true, eqb-false}
use Rattle.std.proofs.Math.Arith.{lt_of_le-ne}
use Rattle.model.specs.declared.Port.{Port}
use Rattle.model.specs.declared.Copies.{Copies}
use Rattle.model.specs.declared.Shared.{Shared}
use Rattle.model.specs.declared.Table.{Table}
use Rattle.model.specs.declared.View.{View}
use Rattle.model.specs.declared.Move.{Move}
use Rattle.model.specs.declared.Fee.{Fee}
use Rattle.model.specs.declared.Outcome.{Outcome}
use Rattle.model.specs.declared.Kind.{Kind}
use Rattle.model.specs.declared.Kind.TheVariants.{Read, Write, Add, Swap}
use Rattle.model.specs.declared.Kind.TheVariants as Kinds
use Rattle.model.specs.declared.Answer.TheVariants.{Done, NoSuchPort}
use Rattle.model.specs.Table.{most, shared, table, port_at, copies_at, put_port}
use Rattle.model.specs.Good.{implies, good}
use Rattle.model.specs.Cost.{outcome, free}
use Rattle.model.specs.Points.{Point, none, p0, p1, p2, p3, p4, p5, p6, p8, p9, p10, p11, p12, p13, p14, p15, p16, p17, p18, p19, x0, x1, x2, x3, x4, x5, point_of, settled}
use Rattle.model.specs.Event.{number_of, stepping, first_of, refusals, refusal, ordered, event}
use Rattle.model.specs.Parts.Moves.{view, released, granted, step, sees, tried}
use Rattle.model.specs.Parts.Charges.{touch_at, holders, put_shared, put_copies, fee_of}
use Rattle.model.specs.Parts.Steps.{touch_of, home_of, view_of, move_of, shared_after, copies_after, charge_of, marked, stepped}
use Rattle.model.proofs.Laws.Cases.{unrefused-step}
use Rattle.model.proofs.Laws.Rules.{shared-rules, port-rules}
use Rattle.model.proofs.Laws.Kept.{room_fits}
use Rattle.model.proofs.Laws.Stepped.{carried-parts}
use Rattle.costs.specs.Single.{paid, charge-fee}

-- what all share, with ACTIVE of the move after an addition, and its word after a swap
abbrev pub front_after : Kind → Move → Shared → Shared
front_after Kinds.Nothing m s = s
front_after Read m s = s
front_after Write m s = s
front_after Add m s = shared m.active s.activecopies s.wordcopies s.d s.word
front_after Swap m s = shared s.active s.activecopies s.wordcopies s.d m.word

-- what a step sees from what all share, its port and GO of the port that it touches
module _ (s : Shared) (k : ℕ) (p : Port) (go : ℕ) where
  abbrev sight : View
  sight = view p s.active s.d k go s.word

  -- only an addition changes ACTIVE, and only a swap the word
  front_kept : (q : Point) (n : ℕ) → front_after (touch_at q).kind (step q sight) (put_shared (touch_at q).cell n s) ≡ put_shared (touch_at q).cell n (shared_after (step q sight) s)
  unfolding step released granted touch_at
  front_kept none n = refl
  front_kept p0 n = refl
  front_kept p1 n = refl
  front_kept p2 n = refl
  front_kept p3 n = refl
  front_kept p4 n = refl
  front_kept p5 n = refl
  front_kept p6 n = refl
  front_kept p8 n = refl
  front_kept p9 n = refl
  front_kept p10 n = refl
  front_kept p11 n = refl
  front_kept p12 n = refl
  front_kept p13 n = refl
  front_kept p14 n = refl
  front_kept p15 n = refl
  front_kept p16 n = refl
  front_kept p17 n = refl
  front_kept p18 n = refl
  front_kept p19 n = refl
  front_kept (x0 x) n = refl
  front_kept (x1 x) n = refl
  front_kept (x2 x) n = refl
  front_kept (x3 x) n = refl
  front_kept (x4 x) n = refl
  front_kept (x5 x) n = refl

  -- the copy set of the word that a step touches is not that of a spin which it makes
  holders-kept : (q : Point) (c : Copies) → holders (touch_at q).cell (shared_after (step q sight) s) (copies_after (step q sight) c) ≡ holders (touch_at q).cell s c
  unfolding step released granted touch_at
  holders-kept none c = refl
  holders-kept p0 c = refl
  holders-kept p1 c = refl
  holders-kept p2 c = refl
  holders-kept p3 c = refl
  holders-kept p4 c = refl
  holders-kept p5 c = refl
  holders-kept p6 c = refl
  holders-kept p8 c = refl
  holders-kept p9 c = refl
  holders-kept p10 c = refl
  holders-kept p11 c = refl
  holders-kept p12 c = refl
  holders-kept p13 c = refl
  holders-kept p14 c = refl
  holders-kept p15 c = refl
  holders-kept p16 c = refl
  holders-kept p17 c = refl
  holders-kept p18 c = refl
  holders-kept p19 c = refl
  holders-kept (x0 x) c = refl
  holders-kept (x1 x) c = refl
  holders-kept (x2 x) c = refl
  holders-kept (x3 x) c = refl
  holders-kept (x4 x) c = refl
  holders-kept (x5 x) c = refl

-- the step of port k, from its move and its fee
module _ (t : Table) (k : ℕ) where
  abbrev pub fee_at : Fee
  fee_at = fee_of (touch_of t k) k (port_at t k).work (port_at t (home_of t k)) (holders (touch_of t k).cell t.shared (copies_at t (home_of t k)))

  abbrev pub shared_left : Shared
  shared_left = front_after (touch_of t k).kind (move_of t k) (put_shared (touch_of t k).cell fee_at.set t.shared)

  abbrev pub copies_left : Copies
  copies_left = put_copies (touch_of t k).cell fee_at.set (copies_after (move_of t k) (copies_at t (home_of t k)))

  abbrev pub left : Outcome
  left =
      outcome (table (marked t k (set t.ports k (settled (move_of t k).own))) (set t.copies (home_of t k) copies_left) shared_left)
      fee_at.cached fee_at.distributed Done

  charge-left : charge_of t k ≡ paid (touch_of t k).cell fee_at (shared_after (move_of t k) t.shared) (copies_after (move_of t k) (copies_at t (home_of t k)))
  unfolding charge_of touch_of move_of view_of
  charge-left =
      let h = holders-kept t.shared k (port_at t k) (port_at t (home_of t k)).go (point_of (port_at t k).point) (copies_at t (home_of t k)) in
      charge-fee (touch_of t k) k (port_at t k).work (port_at t (home_of t k)) _ _
      ∙ ap (λ (m : ℕ). paid (touch_of t k).cell (fee_of (touch_of t k) k (port_at t k).work (port_at t (home_of t k)) m) (shared_after (move_of t k) t.shared)
      (copies_after (move_of t k) (copies_at t (home_of t k)))) h

  step_left : stepped t k ≡ left
  unfolding stepped touch_of move_of view_of
  step_left =
      let h = front_kept t.shared k (port_at t k) (port_at t (home_of t k)).go (point_of (port_at t k).point) fee_at.set in
      rw (charge-left, h)

-- what refuses an order on a good table: there is no such port, or the port's own record says it
module _ (t : Table) (k e : ℕ) (g : good t ≡ true) where
  pub refused-port : t.shared.d ≤ k → refusal t k e ≡ NoSuchPort
  unfolding refusal first_of
  refused-port h = rw (g, le-leb t.shared.d k h)

  pub refused-first : k < t.shared.d → refusal t k e ≡ first_of (refusals e (port_at t k))
  unfolding refusal first_of
  refused-first h = rw (g, lt-leb t.shared.d k h)

-- an order that nothing refuses
module _ (t : Table) (k e : ℕ) (z : number_of (refusal t k e) ≡ 0) where
  pub event-ordered : (e ≡ stepping → ⊥) → event t k e ≡ free Done (put_port t k (ordered e (port_at t k)))
  unfolding event
  event-ordered n = rw (eq-eqb (number_of (refusal t k e)) 0 z, carried-parts t k e, ne_eqb e stepping n)

  pub event-stepped : e ≡ stepping → event t k e ≡ left t k
  unfolding event
  event-stepped s = rw (eq-eqb (number_of (refusal t k e)) 0 z, carried-parts t k e, eq-eqb e stepping s) (step_left t k)

  pub event-done : (event t k e).answer ≡ Done
  event-done = go (eqb e stepping) refl
    where
      go : (b : Bool) → eqb e stepping ≡ b → (event t k e).answer ≡ Done
      go true q = ap (λ (o : Outcome). o.answer) (event-stepped (eqb-true _ _ q))
      go false q = ap (λ (o : Outcome). o.answer) (event-ordered (eqb-false _ _ q))

-- such a step can be made
module _ (t : Table) (k : ℕ) (g : good t ≡ true) (h : k < t.shared.d) (z : number_of (refusal t k stepping) ≡ 0) where
  unworn : implies (eqb (port_at t k).point 4) (ltb (port_at t k).made most) ≡ true
  unworn = go (eqb (port_at t k).point 4) refl
    where
      go : (b : Bool) → eqb (port_at t k).point 4 ≡ b → implies b (ltb (port_at t k).made most) ≡ true
      go true q = lt-ltb _ _ (lt_of_le-ne (port-rules t k g h).made (unrefused-step (port_at t k) (ap number_of (sym (refused-first t k stepping g h)) ∙ z) (eqb-true _ _ q)))
      go false q = refl

  pub step-tried : tried (view_of t k) ≡ move_of t k
  unfolding tried sees view_of move_of
  step-tried =
      let r = shared-rules t g in
      rw (le-leb t.shared.d 64 (le_trans r.fits room_fits), lt-ltb k t.shared.d h, lt-ltb _ _ (port-rules t k g h).seenowner, r.active, unworn)
