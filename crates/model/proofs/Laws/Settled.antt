-- A record whose working values are settled: it meets all rules where its numbers are within their bounds and its point is allowed.
use Rattle.std.specs.Prelude.{◌≡◌, refl, Bool, true, false, cond, not, ◌&&◌, ◌||◌, List, [], ◌∷◌, ℕ, ◌≤◌, eqb, ltb}
use Rattle.std.proofs.Common.{◌∙◌, ap, zero-le, le_refl, arith, eqb-true}
use Rattle.std.proofs.Math.Bool.{and-eq-true_iff}
use Rattle.std.proofs.lemmas.Bool.{false≢true}
use Rattle.model.specs.declared.Port.{Port}
use Rattle.model.specs.Points.{one_of, own_place, seen_place, candidate_place, candidate_spin_place, settled}
use Rattle.model.specs.Good.{implies}
use Rattle.model.proofs.Laws.Sound.{Bounds, Enters, Fit}

-- a test passes for every point of a list: so it does for a point that is one of them
all : (ℕ → Bool) → List ℕ → Bool
all f [] = true
all f (m ∷ ms) = f m && all f ms

included : (n : ℕ) (ms : List ℕ) (f : ℕ → Bool) → all f ms ≡ true → one_of n ms ≡ true → f n ≡ true
unfolding all one_of
included n [] f a e = absurd (false≢true e)
included n (m ∷ ms) f a e = go (eqb n m) refl e (included n ms f both.1)
  where
    both : (f m ≡ true) × (all f ms ≡ true)
    both = (and-eq-true_iff (f m) (all f ms)).0 a

    go : (b : Bool) → eqb n m ≡ b → (b || one_of n ms) ≡ true → (one_of n ms ≡ true → f n ≡ true) → f n ≡ true
    go true q e g = ap f (eqb-true n m q) ∙ both.0
    go false q e g = g e

-- a working value that is kept where it has a place is at most what it was, and is 0 elsewhere
kept-le : (b : Bool) (x : ℕ) → cond b x 0 ≤ x
kept-le true x = le_refl x
kept-le false x = zero-le

kept-rests : (b : Bool) (x : ℕ) → implies (not b) (eqb (cond b x 0) 0) ≡ true
kept-rests true x = refl
kept-rests false x = refl

-- a spin that has a place only where its port has one stays at most that port's made; one that has a place at x5 stays above 0 there
kept-spin : (a b : Bool) (made : ℕ → ℕ) (s o : ℕ) → (a ≡ true → b ≡ true) → s ≤ made o → cond a s 0 ≤ made (cond b o 0)
kept-spin true true made s o f h = h
kept-spin true false made s o f h = absurd (false≢true (f refl))
kept-spin false b made s o f h = zero-le

kept_above : (a b : Bool) (s : ℕ) → (a ≡ true → b ≡ true) → implies a (ltb 0 s) ≡ true → implies a (ltb 0 (cond b s 0)) ≡ true
kept_above true true s f h = h
kept_above true false s f h = absurd (false≢true (f refl))
kept_above false b s f h = refl

-- so a settled record meets all rules
pub settled-fit : (d : ℕ) (made : ℕ → ℕ) (bit : Bool) (p : Port) → Bounds d made p → Enters bit p.point p.flag p.work.seenspin
    → Fit d made bit (settled p)
unfolding settled own_place seen_place candidate_place candidate_spin_place all one_of
settled-fit d made bit p b e =
    let n = p.point in
    let w = p.work in
    let seen = kept-spin (seen_place n) (seen_place n) made w.seenspin w.seenowner (λ q. q) b.seenspin in
    let inside = included n (23 ∷ 33 ∷ 43 ∷ []) candidate_place refl in
    let candidate = kept-spin (candidate_spin_place n) (candidate_place n) made w.candidatespin w.candidate inside b.candidatespin in
    record {
      bounds =
          omega (arith, kept-le (own_place n) w.own, kept-le (seen_place n) w.seenowner, kept-le (candidate_place n) w.candidate);
      enters =
          record {
            named = e.named;
            idle = e.idle;
            clear = e.clear;
            set = e.set;
            setting = kept_above _ _ _ (included n (25 ∷ 35 ∷ 45 ∷ []) seen_place refl) e.setting;
          };
      rests = search kept-rests;
    }
