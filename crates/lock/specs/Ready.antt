-- What an order at port k may count on, where what it answers before anything is changed is DONE.
use Rattle.std.specs.Prelude.{◌≡◌, refl, Bool, true, false, cond, ◌&&◌, ℕ, suc, ◌≤◌, ◌<◌, leb, ltb, eqb, Result, Ok, Err, ⊤}
use borrow.Author.Tests.{eqb-true, eqb-false}
use Rattle.model.specs.declared.Answer.{Answer}
use Rattle.std.proofs.Common.{ap, arith, leb-true, leb-false, ltb-true, le-leb}
use Rattle.std.proofs.Math.Bool.{and-eq-true_iff, and-false}
use Rattle.std.proofs.Math.Arith.{lt_of_le-ne}
use Rattle.std.proofs.Math.Nat.{lt_of_lt_of_le, le_trans}
use Rattle.model.specs.declared.Port.{Port}
use Rattle.model.specs.declared.Shared.{Shared}
use Rattle.model.specs.declared.Table.{Table}
use Rattle.model.specs.declared.Cell.{Cell}
use Rattle.model.specs.declared.Cell.TheVariants.{Nothing, Status, Go, Spin, Active, Lock, CandidateGo, SeenSpin}
use Rattle.model.specs.Table.{room, most, port_at, size_good}
use Rattle.model.specs.Mask.{within}
use Rattle.model.specs.Event.{number_of, stepping, first_of, refusals}
use Rattle.model.specs.Parts.Charges.{home}
use Rattle.model.specs.Parts.Steps.{touch_of, home_of, view_of}
use Rattle.model.specs.Paid.{placed, paid_answer}
use Rattle.model.proofs.Laws.Mask.{within-lt}
use Rattle.model.proofs.Laws.Cases.{unrefused-step}
use Rattle.model.proofs.Laws.Kept.{room_fits}
use Rattle.lock.specs.Sight.{Sight}
use Rattle.answers.specs.Verdict as Verdict

-- the tests that it has passed
pub record Passed (s : Shared) (k e : ℕ) (p : Port) : Type 0 where
  pub fits : s.d ≤ room
  pub bits : within s.d s.active ≡ true
  pub port : k < s.d
  pub seen : p.work.seenowner < s.d
  pub candidate : p.work.candidate < s.d
  pub made : p.made ≤ most
  pub unrefused : number_of (first_of (refusals e p)) ≡ 0

some : (n : ℕ) → suc n ≡ 0 → ⊥
some n z = omega (arith, z)

pub passed : (s : Shared) (k e : ℕ) (p : Port) → number_of (paid_answer s k e p) ≡ 0 → Passed s k e p
unfolding paid_answer first_of size_good placed
passed s k e p h = shares (leb 1 s.d && leb s.d room && within s.d s.active) refl
  where
    places : leb 1 s.d && leb s.d room && within s.d s.active ≡ true → leb s.d k ≡ false
        → (b : Bool) → (ltb p.work.seenowner s.d && ltb p.work.candidate s.d && leb p.made most) ≡ b → Passed s k e p
    places x y true z =
        let a = (and-eq-true_iff (leb 1 s.d && leb s.d room) _).0 x in
        let b = (and-eq-true_iff (ltb p.work.seenowner s.d && ltb p.work.candidate s.d) _).0 z in
        let c = (and-eq-true_iff (ltb p.work.seenowner s.d) _).0 b.0 in
        record {
          fits = leb-true _ _ ((and-eq-true_iff (leb 1 s.d) _).0 a.0).1;
          bits = a.1;
          port = leb-false _ _ y;
          seen = ltb-true _ _ c.0;
          candidate = ltb-true _ _ c.1;
          made = leb-true _ _ b.1;
          unrefused = rw (x, y, z) at h;
        }
    places x y false z = absurd (some 0 (rw (x, y, z) at h))

    ports : leb 1 s.d && leb s.d room && within s.d s.active ≡ true → (b : Bool) → leb s.d k ≡ b → Passed s k e p
    ports x true y = absurd (some 1 (rw (x, y) at h))
    ports x false y = places x y _ refl

    shares : (b : Bool) → (leb 1 s.d && leb s.d room && within s.d s.active) ≡ b → Passed s k e p
    shares true x = ports x _ refl
    shares false x = absurd (some 0 (rw x at h))

abbrev verdict : Bool → Answer → Result ⊤ Answer
verdict b a = cond b (Ok tt) (Err a)

-- what was answered, where nothing refuses and where something does
pub passed-ok : (a : Answer) (u : ⊤) → Ok u ≡ Verdict.passed a → number_of a ≡ 0
unfolding Verdict.passed
passed-ok a u e = go (eqb (number_of a) 0) refl e
  where
    go : (b : Bool) → eqb (number_of a) 0 ≡ b → Ok u ≡ verdict b a → number_of a ≡ 0
    go true q f = eqb-true _ _ q
    go false q f = cc

pub passed-err : (a b : Answer) → Err b ≡ Verdict.passed a → (b ≡ a) × (number_of a ≡ 0 → ⊥)
unfolding Verdict.passed
passed-err a b e = go (eqb (number_of a) 0) refl e
  where
    go : (x : Bool) → eqb (number_of a) 0 ≡ x → Err b ≡ verdict x a → (b ≡ a) × (number_of a ≡ 0 → ⊥)
    go true q f = absurd cc
    go false q f = (cc, eqb-false _ _ q)

-- whatever port's record is looked at where there is no port k, the answer is the same
pub any-record : (t : Table) (k e r : ℕ) → (k < room → r ≡ k) → paid_answer t.shared k e (port_at t r) ≡ paid_answer t.shared k e (port_at t k)
unfolding paid_answer first_of size_good
any-record t k e r h = go (leb room k) refl
  where
    go : (b : Bool) → leb room k ≡ b → paid_answer t.shared k e (port_at t r) ≡ paid_answer t.shared k e (port_at t k)
    go false q = ap (λ (i : ℕ). paid_answer t.shared k e (port_at t i)) (h (leb-false _ _ q))
    go true q = sizes (leb t.shared.d room) refl
      where
        sizes : (b : Bool) → leb t.shared.d room ≡ b → paid_answer t.shared k e (port_at t r) ≡ paid_answer t.shared k e (port_at t k)
        sizes true z = rw (le-leb t.shared.d k (le_trans (leb-true _ _ z) (leb-true _ _ q)))
        sizes false z = rw (z, and-false (leb 1 t.shared.d))

module _ (t : Table) (k e : ℕ) (a : Passed t.shared k e (port_at t k)) where
  -- the port, and the port that its step touches, have a place in the table
  pub port-fits : k < room
  port-fits = lt_of_lt_of_le a.port a.fits

  pub home_fits : home_of t k < room
  unfolding home_of
  home_fits = lt_of_lt_of_le (go (touch_of t k).cell) a.fits
    where
      go : (c : Cell) → home c k (port_at t k).work < t.shared.d
      go Nothing = a.port
      go Status = a.port
      go Go = a.port
      go Spin = a.port
      go Active = a.port
      go Lock = a.port
      go CandidateGo = a.candidate
      go SeenSpin = a.seen

  -- a step sees what it needs
  pub sight : e ≡ stepping → Sight (view_of t k)
  unfolding view_of
  sight q =
      record {
        ports = le_trans a.fits room_fits;
        port = a.port;
        seen = a.seen;
        bits = within-lt _ _ a.bits;
        unworn = λ n. lt_of_le-ne a.made (unrefused-step (port_at t k) (rw q at a.unrefused) n);
      }
