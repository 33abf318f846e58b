-- A step put together from its parts is the step of document 01: point by point.
use Rattle.std.specs.Prelude.{◌≡◌, true, ℕ, zero, suc, eqb, get_or, set}
use Rattle.std.proofs.Math.Path.{refl, ap}
use Rattle.std.proofs.Common.{sym, eq-eqb}
use Rattle.std.proofs.Math.Bool.{cond}
use mathlib.Core.List.{List, [], ◌∷◌}
use Rattle.std.proofs.lemmas.List.{set-get_or}
use Rattle.model.specs.declared.Port.{Port}
use Rattle.model.specs.declared.Copies.{Copies}
use Rattle.model.specs.declared.Shared.{Shared}
use Rattle.model.specs.declared.Table.{Table}
use Rattle.model.specs.declared.Move.{Move}
use Rattle.model.specs.declared.Charge.{Charge}
use Rattle.model.specs.declared.Outcome.{Outcome}
use Rattle.model.specs.declared.Answer.TheVariants.{Done}
use Rattle.model.specs.Table.{copies, table, no_port, no_copies, port_at, copies_at, put_port, latest}
use Rattle.model.specs.Mask.{alone}
use Rattle.model.specs.Points.{Point, none, p0, p1, p2, p3, p4, p5, p6, p8, p9, p10, p11, p12, p13, p14, p15, p16, p17, p18, p19, x0, x1, x2, x3, x4, x5, point_of, settled}
use Rattle.model.specs.Cost.{outcome, free}
use Rattle.model.specs.Step.{with_value}
use Rattle.model.specs.Step as Step
use Rattle.model.specs.Event.{stepping, ordered, carried}
use Rattle.model.specs.Parts.Moves.{released, granted}
use Rattle.model.specs.Parts.Moves as Moves
use Rattle.model.specs.Parts.Charges.{touch_at, home, charge}
use Rattle.model.specs.Parts.Steps.{touch_of, home_of, view_of, move_of, shared_after, copies_after, charge_of, setting, marked, stepped}
use Rattle.model.proofs.Laws.Tests.{split}
use Rattle.model.proofs.Laws.Own.{sight_of}

-- what is put at a place after something else was put there
put-twice : (cs : List Copies) (k : ℕ) (c : Copies) (f : Copies → Copies)
    → set (set cs k c) k (f (get_or (set cs k c) k no_copies)) ≡ set cs k (f c)
put-twice [] k c f = refl
put-twice (x ∷ cs) zero c f = refl
put-twice (x ∷ cs) (suc k) c f = ap (λ (l : List Copies). x ∷ l) (put-twice cs k c f)

module _ (t : Table) (k : ℕ) where
  abbrev me : Port
  me = port_at t k

  -- the parts of a step at point q, and the step from them
  abbrev pub there : Point → ℕ
  there q = home (touch_at q).cell k me.work

  abbrev pub move_at : Point → Move
  move_at q = Moves.step q (sight_of t k (port_at t (there q)).go)

  abbrev pub charge_at : Point → Charge
  charge_at q =
      charge (touch_at q) k me.work (port_at t (there q)) (shared_after (move_at q) t.shared) (copies_after (move_at q) (copies_at t (there q)))

  abbrev marked_at : Point → List Port → List Port
  marked_at q ps =
      cond (setting (move_at q) (port_at t (there q)) me.work) (set ps (there q) (with_value 1 (get_or ps (there q) no_port))) ps

  abbrev whole : Point → Outcome
  whole q =
      outcome (table (marked_at q (set t.ports k (settled (move_at q).own)))
      (set t.copies (there q) (charge_at q).copies) (charge_at q).shared)
      (charge_at q).cached (charge_at q).distributed Done

  -- the copies of a port's words put where they stand change nothing
  put_back : (ps : List Port) (j : ℕ) (s : Shared) (m n : ℕ)
      → outcome (table ps t.copies s) m n Done ≡ outcome (table ps (set t.copies j (copies_at t j)) s) m n Done
  put_back ps j s m n = ap (λ (cs : List Copies). outcome (table ps cs s) m n Done) (sym (set-get_or t.copies j no_copies))

  same : eqb k k ≡ true
  same = eq-eqb k k refl

  step-whole : (q : Point) → Step.step q t k me ≡ whole q
  unfolding Step.step Step.unasked Moves.step released granted touch_at charge
  step-whole none = put_back _ k t.shared 0 0
  step-whole p0 = put_back _ k t.shared 0 0
  step-whole p1 = rw same
  step-whole p2 = put_back _ k t.shared 0 0
  step-whole p3 = rw same
  step-whole p4 =
      rw same (ap (λ (cs : List Copies). outcome (table (set t.ports k (settled (move_at p4).own)) cs t.shared) 1 0 Done)
      (put-twice t.copies k (copies (copies_at t k).status (copies_at t k).go 0) (λ c. copies c.status (alone k) c.spin)))
  step-whole p5 = put_back _ k _ _ 1
  step-whole p6 = put_back _ k _ _ 1
  step-whole p8 =
      split (λ (o : Outcome). o ≡ whole p8) (latest me me.work.own) _ _
      (λ e. rw (e, same))
      (λ e. rw (e, same) (put_back _ k t.shared 1 0))
  step-whole p9 = put_back _ k t.shared 0 0
  step-whole p10 = rw same
  step-whole p11 = put_back _ k t.shared 0 0
  step-whole p12 = rw same
  step-whole p13 = rw same
  step-whole p14 = put_back _ k _ _ 1
  step-whole p15 = put_back _ k _ _ 1
  step-whole p16 = rw same
  step-whole p17 = put_back _ k _ _ 1
  step-whole p18 = rw same
  step-whole p19 = rw same
  step-whole (x0 x) = put_back _ k _ _ 1
  step-whole (x1 x) = put_back _ k _ _ 1
  step-whole (x2 x) = refl
  step-whole (x3 x) = put_back _ k _ _ 1
  step-whole (x4 x) = put_back _ k _ _ 1
  step-whole (x5 x) =
      split (λ (o : Outcome). o ≡ whole (x5 x)) (setting (move_at (x5 x)) (port_at t (there (x5 x))) me.work) _ _
      (λ e. rw e)
      (λ e. rw e (put_back _ me.work.seenowner t.shared 1 _))

  -- an event that is not refused, with its step put together
  pub carried-parts : (e : ℕ) → carried t k e ≡ cond (eqb e stepping) (stepped t k) (free Done (put_port t k (ordered e (port_at t k))))
  unfolding carried stepped touch_of home_of view_of move_of charge_of marked
  carried-parts e = ap (λ o. cond (eqb e stepping) o (free Done (put_port t k (ordered e (port_at t k))))) (step-whole (point_of (port_at t k).point))
