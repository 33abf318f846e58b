-- What goes with the point of a port, for one port by itself: what holds of its STATUS, GO, own spin, latest value and flag at each point.
use Rattle.std.specs.Prelude.{◌≡◌, refl, ◌⊎◌, true, ℕ, ◌≤◌, ◌<◌}
use Rattle.std.proofs.Common.{sym, subst, inl, inr, arith}
use Rattle.model.specs.declared.Port.{Port}
use Rattle.model.specs.Table.{TRY, CS, EXIT, ABORT}
use Rattle.model.specs.Points.{Tens, two, three, four, Point, none, p0, p1, p2, p3, p4, p5, p6, p8, p9, p10, p11, p12, p13, p14, p15, p16, p17, p18, p19, x0, x1, x2, x3, x4, x5, point_of}
use Rattle.model.specs.Good.{named}
use Rattle.model.proofs.Laws.Own.{number_of_point, number}

-- idle: STATUS TRY, GO 0, flag 0
pub record Resting (s g f : ℕ) : Type 0 where
  pub status : s ≡ TRY
  pub go : g ≡ 0
  pub flag : f ≡ 0

-- STATUS not CS and not EXIT
pub record Undecided (s : ℕ) : Type 0 where
  pub uncritical : s ≡ CS → ⊥
  pub unexited : s ≡ EXIT → ⊥

-- on the way in, with a spin: STATUS TRY, own spin = GO, GO above 0
pub record Trying (s g o : ℕ) : Type 0 where
  pub status : s ≡ TRY
  pub own : o ≡ g
  pub some : 0 < g

-- about to leave: STATUS CS or EXIT, which are next to each other among the codes
pub record Exiting (s : ℕ) : Type 0 where
  pub low : CS ≤ s
  pub high : s ≤ EXIT

-- on the way out: STATUS EXIT or ABORT, the last two codes
pub record Leaving (s : ℕ) : Type 0 where
  pub low : EXIT ≤ s
  pub high : s ≤ ABORT

-- the three promotions: on the way in, and on the way out before and after the word is let go
abbrev pub Promoting : Tens → ℕ → ℕ → ℕ → Type 0
Promoting two s g o = Trying s g o
Promoting three s g o = Leaving s × (o ≡ g)
Promoting four s g o = Leaving s

-- the facts that go with a point, of STATUS s, GO g, own spin o, latest value v and flag f
abbrev pub Standing : Point → ℕ → ℕ → ℕ → ℕ → ℕ → Type 0
Standing none s g o v f = ⊥
Standing p0 s g o v f = Resting s g f
Standing p1 s g o v f = Unit {0}
Standing p2 s g o v f = Undecided s
Standing p3 s g o v f = s ≡ TRY
Standing p4 s g o v f = (s ≡ TRY) × (g ≡ 0)
Standing p5 s g o v f = Trying s g o
Standing p6 s g o v f = Trying s g o
Standing p8 s g o v f = Trying s g o
Standing p9 s g o v f = Trying s g o
Standing p10 s g o v f = Trying s g o × (v ≡ 1)
Standing p11 s g o v f = s ≡ CS
Standing p12 s g o v f = Undecided s × (f ≡ 1)
Standing p13 s g o v f = Exiting s
Standing p14 s g o v f = Leaving s
Standing p15 s g o v f = Leaving s
Standing p16 s g o v f = Leaving s
Standing p17 s g o v f = Leaving s × (o ≡ g)
Standing p18 s g o v f = Leaving s
Standing p19 s g o v f = Leaving s × (g ≡ 0)
Standing (x0 x) s g o v f = Promoting x s g o
Standing (x1 x) s g o v f = Promoting x s g o
Standing (x2 x) s g o v f = Promoting x s g o
Standing (x3 x) s g o v f = Promoting x s g o
Standing (x4 x) s g o v f = Promoting x s g o
Standing (x5 x) s g o v f = Promoting x s g o

-- the same of a port
abbrev pub PromotingOf : Tens → Port → Type 0
PromotingOf x p = Promoting x p.status p.go p.work.own

abbrev pub StandingOf : Point → Port → Type 0
StandingOf q p = Standing q p.status p.go p.work.own p.value p.flag

-- what holds of a port: the facts that go with its point; and at every point, GO above 0 is the latest spin, STATUS CS goes with a spin of
-- latest value 1, and STATUS ABORT with the flag up
pub record Life (p : Port) : Type 0 where
  pub point : named p.point ≡ true
  pub row : StandingOf (point_of p.point) p
  pub latest : 0 < p.go → p.go ≡ p.made
  pub critical : p.status ≡ CS → (0 < p.go) × (p.value ≡ 1)
  pub aborted : p.status ≡ ABORT → p.flag ≡ 1

-- the facts at a known point
pub row_at : {p : Port} (q : Point) → Life p → point_of p.point ≡ q → StandingOf q p
row_at q l e = rw e at l.row

-- with a spin on the way in, as at 8 and 9, the own spin is the latest, and there is one
pub own-latest : {p : Port} → Life p → Trying p.status p.go p.work.own → (p.work.own ≡ p.made) × (0 < p.made)
own-latest {p} l r = let e = l.latest r.some in omega arith

-- STATUS is CS only at 1, 11 and 13
abbrev pub Critical : ℕ → Type 0
Critical n = (n ≡ 1) ⊎ (n ≡ 11) ⊎ (n ≡ 13)

uncritical-promotion : (x : Tens) (p : Port) → p.status ≡ CS → PromotingOf x p → ⊥
uncritical-promotion two p e r = omega arith
uncritical-promotion three p e r = omega arith
uncritical-promotion four p e r = omega arith

critical-point : (q : Point) (p : Port) → p.status ≡ CS → StandingOf q p → Critical (number_of_point q)
unfolding number_of_point
critical-point none p e r = absurd r
critical-point p0 p e r = absurd (omega arith)
critical-point p1 p e r = inl refl
critical-point p2 p e r = absurd (r.uncritical e)
critical-point p3 p e r = absurd (omega arith)
critical-point p4 p e r = absurd (omega arith)
critical-point p5 p e r = absurd (omega arith)
critical-point p6 p e r = absurd (omega arith)
critical-point p8 p e r = absurd (omega arith)
critical-point p9 p e r = absurd (omega arith)
critical-point p10 p e r = absurd (omega arith)
critical-point p11 p e r = inr (inl refl)
critical-point p12 p e r = absurd (r.0.uncritical e)
critical-point p13 p e r = inr (inr refl)
critical-point p14 p e r = absurd (omega arith)
critical-point p15 p e r = absurd (omega arith)
critical-point p16 p e r = absurd (omega arith)
critical-point p17 p e r = absurd (omega arith)
critical-point p18 p e r = absurd (omega arith)
critical-point p19 p e r = absurd (omega arith)
critical-point (x0 x) p e r = absurd (uncritical-promotion x p e r)
critical-point (x1 x) p e r = absurd (uncritical-promotion x p e r)
critical-point (x2 x) p e r = absurd (uncritical-promotion x p e r)
critical-point (x3 x) p e r = absurd (uncritical-promotion x p e r)
critical-point (x4 x) p e r = absurd (uncritical-promotion x p e r)
critical-point (x5 x) p e r = absurd (uncritical-promotion x p e r)

pub critical-at : {p : Port} → Life p → p.status ≡ CS → Critical p.point
critical-at {p} l e =
    let q = point_of p.point in
    subst Critical (sym (number p.point q l.point refl)) (critical-point q p e l.row)
