-- What goes with the point of a port holds of every port of a fresh table, and every order leaves it so.
use Rattle.std.specs.Prelude.{◌≡◌, Bool, true, false, cond, ◌&&◌, ℕ, zero, suc, ◌+◌, ◌≤◌, eqb, get_or, replicate}
use Rattle.std.proofs.Math.Path.{refl}
use Rattle.std.proofs.Common.{sym, ◌∙◌, ap}
use Rattle.std.proofs.Math.Decide.{ℕ_discrete}
use native.Mathlib.Omega.{arith}
use Rattle.std.proofs.Math.Dec.{ltb}
use borrow.Author.Tests.{eqb-true, eqb-false}
use Rattle.model.specs.declared.Work.{Work}
use Rattle.model.specs.declared.Port.{Port}
use Rattle.model.specs.declared.Table.{Table}
use Rattle.model.specs.declared.View.{View}
use Rattle.model.specs.Table.{room, CS, EXIT, ABORT, no_port, port_at, put_port, latest, read_spin, fresh_table, Sized}
use Rattle.model.specs.Points.{Tens, two, three, four, Point, none, p0, p1, p2, p3, p4, p5, p6, p8, p9, p10, p11, p12, p13, p14, p15, p16, p17, p18, p19, x0, x1, x2, x3, x4, x5, tens, back, point_of, own_place, settled}
use Rattle.model.specs.Good.{named}
use Rattle.model.specs.Step.{at, with_flag, with_value, with_work, unasked}
use Rattle.model.specs.Event.{ordered}
use Rattle.model.specs.Parts.Moves.{up, bit, step}
use Rattle.model.specs.Parts.Steps.{move_of, stepped}
use Rattle.model.specs.Run.{Order, after}
use Rattle.model.proofs.Laws.Tests.{split}
use Rattle.model.proofs.Laws.Rules.{port-rules}
use Rattle.model.proofs.Laws.Cases.{Allowed, enters, crashes, calls_off, leaves, Ordered, Stepped, after-case}
use Rattle.model.proofs.Laws.Own.{number_of_point, number, sight_of, move_at}
use Rattle.model.proofs.Laws.Ports.{Left, unset, set_one, put-own, put_other, own-left, other-left}
use Rattle.model.proofs.Laws.Life.{PromotingOf, Standing, StandingOf, Life, row_at}

-- a value that goes to 1, or a flag that goes up at another point than 0, leaves the facts
raised : (q : Point) (p : Port) (v f : ℕ) → (p.value ≡ 1 → v ≡ 1) → (p.flag ≡ 1 → f ≡ 1) → (q ≡ p0 → p.flag ≡ f)
    → StandingOf q p → StandingOf q (with_flag f (with_value v p))
raised none p v f u a z r = r
raised p0 p v f u a z r = record { status = r.status; go = r.go; flag = sym (z refl) ∙ r.flag }
raised p1 p v f u a z r = r
raised p2 p v f u a z r = r
raised p3 p v f u a z r = r
raised p4 p v f u a z r = r
raised p5 p v f u a z r = r
raised p6 p v f u a z r = r
raised p8 p v f u a z r = r
raised p9 p v f u a z r = r
raised p10 p v f u a z r = (r.0, u r.1)
raised p11 p v f u a z r = r
raised p12 p v f u a z r = (r.0, a r.1)
raised p13 p v f u a z r = r
raised p14 p v f u a z r = r
raised p15 p v f u a z r = r
raised p16 p v f u a z r = r
raised p17 p v f u a z r = r
raised p18 p v f u a z r = r
raised p19 p v f u a z r = r
raised (x0 x) p v f u a z r = r
raised (x1 x) p v f u a z r = r
raised (x2 x) p v f u a z r = r
raised (x3 x) p v f u a z r = r
raised (x4 x) p v f u a z r = r
raised (x5 x) p v f u a z r = r

-- a port whose latest spin is set to 1
value_set : {p : Port} → Life p → Life (with_value 1 p)
value_set {p} l =
    record {
      point = l.point;
      row = raised (point_of p.point) p 1 p.flag (λ e. refl) (λ e. e) (λ e. refl) l.row;
      latest = l.latest;
      critical = λ e. ((l.critical e).0, refl);
      aborted = l.aborted;
    }

-- a port of which only the point and the working values change
module _ (p : Port) (l : Life p) where
  moved : (w : Work) (n : ℕ) → named n ≡ true → Standing (point_of n) p.status p.go w.own p.value p.flag
      → Life (at n (with_work w p))
  moved w n e r = record { point = e; row = r; latest = l.latest; critical = l.critical; aborted = l.aborted }

  -- an event that is no step
  ordered-life : {e : ℕ} → Allowed e p → Life (ordered e p)
  unfolding named number_of_point
  ordered-life (enters _ _ _ q) = rw q (moved p.work 1 refl tt)
  ordered-life (crashes _ _ q) = rw q (moved _ 1 refl tt)
  ordered-life (calls_off _ n q) =
      rw q
      (record {
        point = l.point;
        row = raised (point_of p.point) p p.value 1 (λ e. e) (λ e. refl) (λ e. absurd (n (number p.point p0 l.point e))) l.row;
        latest = l.latest;
        critical = l.critical;
        aborted = λ e. refl;
      })
  ordered-life (leaves _ n q) =
      let r = row_at p11 l (ap point_of n) in
      rw q (moved p.work 13 refl (omega arith))

-- port p may come to point n, with own spin o where that has a place there
abbrev Next : Port → ℕ → ℕ → Type 0
Next p o n = (named n ≡ true) × Standing (point_of n) p.status p.go (cond (own_place n) o 0) p.value p.flag

-- a promotion keeps its facts: where it goes back to, and at its points from x1 on
abbrev Keeps : Tens → Port → ℕ → Type 0
Keeps x p n = PromotingOf x p → Next p p.work.own n

promotion : (x : Tens) (p : Port)
    → Keeps x p (back x)
    × Keeps x p (tens x + 1)
    × Keeps x p (tens x + 2)
    × Keeps x p (tens x + 3)
    × Keeps x p (tens x + 4)
    × Keeps x p (tens x + 5)
unfolding tens back named own_place
promotion two p = (λ r. (refl, r), λ r. (refl, r), λ r. (refl, r), λ r. (refl, r), λ r. (refl, r), λ r. (refl, r))
promotion three p = (λ r. (refl, r), λ r. (refl, r), λ r. (refl, r), λ r. (refl, r), λ r. (refl, r), λ r. (refl, r))
promotion four p = (λ r. (refl, r), λ r. (refl, r), λ r. (refl, r), λ r. (refl, r), λ r. (refl, r), λ r. (refl, r))

-- where a spin reads as 1, the latest value is 1
reads-one : (p : Port) (n : ℕ) → read_spin p n ≡ 1 → p.value ≡ 1
unfolding read_spin
reads-one p n = split (λ (m : ℕ). m ≡ 1 → p.value ≡ 1) (latest p n) _ _ (λ b e. e) (λ b e. absurd (omega arith))

-- the step of a port: its own record is then such a port again
module _ (v : View) (l : Life v.own) (known : v.own.status ≤ ABORT) where
  abbrev me : Port
  me = v.own

  to : (w : Work) (n : ℕ) → Next me w.own n → Life (settled (at n (with_work w me)))
  unfolding settled
  to w n r = moved me l _ n r.0 r.1

  either : (w : Work) (b : Bool) (m n : ℕ) → (b ≡ true → Next me w.own m) → (b ≡ false → Next me w.own n)
      → Life (settled (at (cond b m n) (with_work w me)))
  either w b m n f g = to w (cond b m n) (split (Next me w.own) b m n f g)

  unasked-life : (x : Tens) → PromotingOf x me → Life (settled (unasked x v.k v.own))
  unfolding unasked named own_place
  unasked-life two r = to _ 24 (refl, r)
  unasked-life three r = to _ 32 (refl, r)
  unasked-life four r = to _ 44 (refl, r)

  own-step : (q : Point) → (q ≡ p0 → ⊥) → (q ≡ p11 → ⊥) → StandingOf q me → Life (settled (step q v).own)
  unfolding named own_place settled step
  own-step none b i r = absurd r
  own-step p0 b i r = absurd (b refl)
  own-step p1 b i r =
      either me.work (eqb me.status CS) 11 _ (λ u. (refl, eqb-true _ _ u))
      (λ u. split (Next me me.work.own) (eqb me.status EXIT) 13 2
      (λ w. (refl, omega (arith, eqb-true me.status EXIT)))
      (λ w. (refl, record { uncritical = eqb-false _ _ u; unexited = eqb-false _ _ w })))
  own-step p2 b i r =
      either me.work (up v) 12 3 (λ u. (refl, (r, eqb-true _ _ u)))
      (λ u. let unaborted : me.status ≡ ABORT → ⊥ = λ a. eqb-false _ _ u (l.aborted a) in (refl, omega arith))
  own-step p3 b i r =
      either _ (eqb me.go 0) 4 5 (λ u. (refl, (r, eqb-true _ _ u)))
      (λ u. (refl, record { status = r; own = refl; some = omega (arith, eqb-false me.go 0 u) }))
  own-step p4 b i r =
      record {
        point = refl;
        row = record { status = r.0; own = refl; some = omega arith };
        latest = λ u. refl;
        critical = omega arith;
        aborted = omega arith;
      }
  own-step p5 b i r = either me.work (bit v) 20 6 (λ u. (refl, r)) (λ u. (refl, r))
  own-step p6 b i r = to _ 20 (refl, r)
  own-step p8 b i r =
      either me.work (eqb (read_spin me me.work.own) 1) 10 9
      (λ u. (refl, (r, reads-one me _ (eqb-true _ _ u))))
      (λ u. (refl, r))
  own-step p9 b i r = either me.work (up v) 12 8 (λ u. (refl, (omega arith, eqb-true _ _ u))) (λ u. (refl, r))
  own-step p10 b i r =
      record { point = refl; row = refl; latest = l.latest; critical = λ u. (r.0.some, r.1); aborted = omega arith }
  own-step p11 b i r = absurd (i refl)
  own-step p12 b i r =
      record { point = refl; row = omega arith; latest = l.latest; critical = omega arith; aborted = λ u. r.1 }
  own-step p13 b i r =
      record { point = refl; row = omega arith; latest = l.latest; critical = omega arith; aborted = omega arith }
  own-step p14 b i r = either me.work (bit v) 15 16 (λ u. (refl, r)) (λ u. (refl, r))
  own-step p15 b i r = to me.work 16 (refl, r)
  own-step p16 b i r = to _ 30 (refl, (r, refl))
  own-step p17 b i r = to me.work 40 (refl, r.0)
  own-step p18 b i r =
      record { point = refl; row = (r, refl); latest = omega arith; critical = omega arith; aborted = l.aborted }
  own-step p19 b i r =
      record {
        point = refl;
        row = record { status = refl; go = r.1; flag = refl };
        latest = l.latest;
        critical = omega arith;
        aborted = omega arith;
      }
  own-step (x0 x) b i r =
      to _ _ (split (λ (i : ℕ). Next me me.work.own (tens x + i)) (eqb v.word.taken 1) 4 1
      (λ u. (promotion x me).4 r) (λ u. (promotion x me).1 r))
  own-step (x1 x) b i r =
      split (λ (p : Port). Life (settled p)) (eqb v.active 0) _ _ (λ u. unasked-life x r) (λ u. to _ _ ((promotion x me).2 r))
  own-step (x2 x) b i r = to _ _ ((promotion x me).3 r)
  own-step (x3 x) b i r = to _ _ ((promotion x me).4 r)
  own-step (x4 x) b i r =
      split (λ (p : Port). Life (settled p)) (eqb v.word.taken 1 && ltb 0 v.word.spin) _ _
      (λ u. to _ _ ((promotion x me).5 r))
      (λ u. to _ _ ((promotion x me).0 r))
  own-step (x5 x) b i r = to _ _ ((promotion x me).0 r)

-- the ports of a fresh table
pub fresh-port : (n k : ℕ) → get_or (replicate n no_port) k no_port ≡ no_port
fresh-port zero k = refl
fresh-port (suc n) zero = refl
fresh-port (suc n) (suc k) = fresh-port n k

pub fresh-life : (d k : ℕ) → Life (port_at (fresh_table d) k)
unfolding fresh_table named
fresh-life d k =
    rw (fresh-port room k)
    (record {
      point = refl;
      row = omega arith;
      latest = omega arith;
      critical = omega arith;
      aborted = omega arith;
    })

-- what a step leaves at a port
left-life : {t : Table} {k j : ℕ} {p : Port} → Life p → Left t k j p → Life (port_at (stepped t k).table j)
left-life l (unset e) = rw e l
left-life l (set_one _ e) = rw e (value_set l)

-- a table of such ports
module _ (t : Table) (o : Order) (s : Sized t) (l : (j : ℕ) → Life (port_at t j)) where
  own-life : Stepped t o → Life (settled (move_of t o.port).own)
  unfolding number_of_point
  own-life c =
      let n = (port_at t o.port).point in
      let mine = l o.port in
      rw (move_at t o.port (point_of n) refl)
      (own-step (sight_of t o.port _) mine (port-rules t o.port c.sound c.port).status (point_of n)
      (λ e. c.busy (number n p0 mine.point e))
      (λ e. c.outside (number n p11 mine.point e))
      mine.row)

  -- every order leaves such ports
  pub life-after : (j : ℕ) → Life (port_at (after t o) j)
  life-after j =
      after-case t o (λ (u : Table). Life (port_at u j)) (l j) (put (ℕ_discrete j o.port)) (left (ℕ_discrete j o.port))
    where
      put : Dec (j ≡ o.port) → Ordered t o → Life (port_at (put_port t o.port (ordered o.event (port_at t o.port))) j)
      put (yes e) c = rw (e, put-own t o.port _ s c.fits) (ordered-life (port_at t o.port) (l o.port) c.allowed)
      put (no n) c = rw (put_other t o.port j _ n) (l j)

      left : Dec (j ≡ o.port) → Stepped t o → Life (port_at (stepped t o.port).table j)
      left (yes e) c = rw e (left-life (own-life c) (own-left t o.port s c.fits))
      left (no n) c = left-life (l j) (other-left t o.port j n)
