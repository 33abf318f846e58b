-- What a step does to the turn, point by point: who owns the word after it, and whether its port has a candidate that passes port k over.
use Rattle.std.specs.Prelude.{◌≡◌, Bool, true, false, cond, ◌&&◌, [], ◌∷◌, ℕ, ◌+◌, ◌≤◌, ◌<◌, eqb}
use Rattle.std.proofs.Math.Path.{refl, sym, ap}
use Rattle.std.proofs.Common.{◌∙◌, ltb-false, eqb-true, le-ltb}
use Rattle.std.proofs.lemmas.Bool.{false≢true}
use Rattle.std.proofs.Math.Dec.{ltb}
use Rattle.model.specs.declared.Word.{Word}
use Rattle.model.specs.declared.Port.{Port}
use Rattle.model.specs.declared.View.{View}
use Rattle.model.specs.declared.Move.{Move}
use Rattle.model.specs.Table.{CS, EXIT, word, read_spin}
use Rattle.model.specs.Mask.{stands}
use Rattle.model.specs.Ring.{next, distance}
use Rattle.model.specs.Points.{Tens, two, three, four, Point, none, p0, p1, p2, p3, p4, p5, p6, p8, p9, p10, p11, p12, p13, p14, p15, p16, p17, p18, p19, x0, x1, x2, x3, x4, x5, tens, back, seen_place, candidate_place, candidate_spin_place, settled}
use Rattle.model.specs.Step.{at, with_candidate, with_candidate_spin, same, swapped}
use Rattle.model.specs.Parts.Moves.{changed_word, up, bit, released, granted, step}
use Rattle.model.proofs.Laws.Tests.{conjunct, split}
use Rattle.model.proofs.Laws.Mask.{empty}
use Rattle.model.proofs.Laws.Ring.{next-nearest}
use Rattle.model.proofs.Laws.Own.{number_of_point}
use Rattle.model.proofs.Laws.Grants.{swaps}

-- the candidate of a port does not lie in the interval (seen owner, k] of the ring; and the port is at x2 or x3: it passes k over
abbrev misses : ℕ → ℕ → Port → Bool
misses d k p = ltb (distance d p.work.seenowner k) (distance d p.work.seenowner p.work.candidate)

unfoldable pub strays : ℕ → ℕ → Port → Bool
strays d k p = candidate_place p.point && misses d k p

-- the same word has the same owner
same-owner : (w u : Word) → same w u ≡ true → w.owner ≡ u.owner
unfolding same
same-owner w u e = eqb-true _ _ (conjunct (eqb w.taken u.taken) (eqb w.owner u.owner ∷ eqb w.spin u.spin ∷ []) e 1)

-- a step keeps the word's owner, and its port passes k over only where it did before; or it is a grant, which leaves its port with no candidate
pub data Turn (k : ℕ) (v : View) (m : Move) : Type 0 where
  keeps : swaps v.word v.own ≡ false → m.word.owner ≡ v.word.owner
      → (strays v.d k (settled m.own) ≡ true → strays v.d k v.own ≡ true) → Turn k v m
  passes : swaps v.word v.own ≡ true → m.word.owner ≡ v.own.work.candidate
      → strays v.d k (settled m.own) ≡ false
      → (strays v.d k v.own ≡ false
      → distance v.d v.word.owner v.own.work.candidate ≤ distance v.d v.word.owner k)
      → Turn k v m

-- a test that gives the same for each of the tens; a choice of points that have no candidate
pub each : (f : Tens → Bool) {b : Bool} → f two ≡ b → f three ≡ b → f four ≡ b → (x : Tens) → f x ≡ b
each f p q r two = p
each f p q r three = q
each f p q r four = r

either : (b : Bool) (m n : ℕ) → candidate_place m ≡ false → candidate_place n ≡ false → candidate_place (cond b m n) ≡ false
either b m n p q = split (λ (i : ℕ). candidate_place i ≡ false) b m n (λ e. p) (λ e. q)

module _ (k : ℕ) (v : View) (h : v.own.work.seenowner < v.d) (l : k < v.d) (s : stands v.active k ≡ true) where
  -- what a step leaves at a point with no candidate, and at one with a candidate
  unplaced : (p : Port) → candidate_place p.point ≡ false → strays v.d k (settled p) ≡ false
  unfolding strays settled
  unplaced p e = rw e

  placed : (p : Port) → seen_place p.point ≡ true → candidate_place p.point ≡ true → strays v.d k (settled p) ≡ misses v.d k p
  unfolding strays settled
  placed p e f = rw (e, f)

  -- a step at a point n other than x3 is no grant; such a step that keeps the owner, after which its port does not pass k over, or has no candidate
  unswapped : {n : ℕ} → v.own.point ≡ n → candidate_spin_place n ≡ false → swaps v.word v.own ≡ false
  unfolding swaps
  unswapped e c = rw (e, c)

  clear : {n : ℕ} (m : Move) → v.own.point ≡ n → candidate_spin_place n ≡ false → m.word.owner ≡ v.word.owner
      → strays v.d k (settled m.own) ≡ false → Turn k v m
  clear m e c w f = keeps (unswapped e c) w (λ q. absurd (false≢true (sym f ∙ q)))

  away : {n : ℕ} (m : Move) → v.own.point ≡ n → candidate_spin_place n ≡ false → m.word.owner ≡ v.word.owner
      → candidate_place m.own.point ≡ false → Turn k v m
  away m e c w f = clear m e c w (unplaced m.own f)

  -- 17: the release keeps the owner
  release : (released v).owner ≡ v.word.owner
  unfolding released swapped
  release =
      split (λ (w : Word). w.owner ≡ v.word.owner) (same v.word (word 1 v.k v.own.work.own)) _ _
      (λ e. sym (same-owner v.word _ e))
      (λ e. refl)

  -- x1: next is k or lies before k
  choose : (n : ℕ) → seen_place n ≡ true → candidate_place n ≡ true
      → strays v.d k (settled (at n (with_candidate (next v.d v.own.work.seenowner v.active) v.own))) ≡ false
  choose n e f = placed (at n (with_candidate _ v.own)) e f ∙ le-ltb _ _ (next-nearest v.active h l s)

  -- x2: seen owner and candidate stay
  read : (n : ℕ) → seen_place n ≡ true → candidate_place n ≡ true → candidate_place v.own.point ≡ true
      → strays v.d k (settled (at n (with_candidate_spin v.go v.own))) ≡ true → strays v.d k v.own ≡ true
  unfolding strays
  read n e f g q = rw g (sym (placed (at n (with_candidate_spin v.go v.own)) e f) ∙ q)

  -- x3: a swap that is done makes the candidate owner
  grant : (n : ℕ) → candidate_spin_place v.own.point ≡ true → candidate_place v.own.point ≡ true → candidate_place n ≡ false
      → Turn k v (changed_word v (granted v) (at n v.own))
  unfolding granted swapped swaps strays
  grant n e f g =
      split (λ (w : Word). Turn k v (changed_word v w (at n v.own)))
      (same v.word (word 0 v.own.work.seenowner v.own.work.seenspin))
      _
      _
      (λ q. passes (rw e q) refl (unplaced _ g) (λ z. rw (same-owner _ _ q) (ltb-false _ _ (rw f at z))))
      (λ q. keeps (rw e q) refl (λ z. absurd (false≢true (sym (unplaced _ g) ∙ z))))

  -- every point
  pub turn : (q : Point) → v.own.point ≡ number_of_point q → Turn k v (step q v)
  unfolding step number_of_point seen_place candidate_place candidate_spin_place tens back
  turn none e = away _ e refl refl (ap candidate_place e)
  turn p0 e = away _ e refl refl (ap candidate_place e)
  turn p1 e = away _ e refl refl (either (eqb v.own.status CS) 11 _ refl (either (eqb v.own.status EXIT) 13 2 refl refl))
  turn p2 e = away _ e refl refl (either (up v) 12 3 refl refl)
  turn p3 e = away _ e refl refl (either (eqb v.own.go 0) 4 5 refl refl)
  turn p4 e = away _ e refl refl refl
  turn p5 e = away _ e refl refl (either (bit v) 20 6 refl refl)
  turn p6 e = away _ e refl refl refl
  turn p8 e = away _ e refl refl (either (eqb (read_spin v.own v.own.work.own) 1) 10 9 refl refl)
  turn p9 e = away _ e refl refl (either (up v) 12 8 refl refl)
  turn p10 e = away _ e refl refl refl
  turn p11 e = away _ e refl refl (ap candidate_place e)
  turn p12 e = away _ e refl refl refl
  turn p13 e = away _ e refl refl refl
  turn p14 e = away _ e refl refl (either (bit v) 15 16 refl refl)
  turn p15 e = away _ e refl refl refl
  turn p16 e = away _ e refl refl refl
  turn p17 e = away _ e refl release refl
  turn p18 e = away _ e refl refl refl
  turn p19 e = away _ e refl refl refl
  turn (x0 x) e =
      away _ e (each (λ x. candidate_spin_place (tens x)) refl refl refl x) refl
      (split (λ (i : ℕ). candidate_place (tens x + i) ≡ false) (eqb v.word.taken 1) 4 1
      (λ q. each (λ x. candidate_place (tens x + 4)) refl refl refl x)
      (λ q. each (λ x. candidate_place (tens x + 1)) refl refl refl x))
  turn (x1 x) e =
      clear _ e (each (λ x. candidate_spin_place (tens x + 1)) refl refl refl x) refl
      (split (λ (p : Port). strays v.d k (settled p) ≡ false) (eqb v.active 0) _ _
      (λ q. absurd (false≢true (sym (empty k) ∙ ap (λ (a : ℕ). stands a k) (sym (eqb-true _ _ q)) ∙ s)))
      (λ q.
      choose (tens x + 2) (each (λ x. seen_place (tens x + 2)) refl refl refl x) (each (λ x. candidate_place (tens x + 2)) refl refl refl x)))
  turn (x2 x) e =
      keeps (unswapped e (each (λ x. candidate_spin_place (tens x + 2)) refl refl refl x)) refl
      (read (tens x + 3)
      (each (λ x. seen_place (tens x + 3)) refl refl refl x)
      (each (λ x. candidate_place (tens x + 3)) refl refl refl x)
      (ap candidate_place e ∙ each (λ x. candidate_place (tens x + 2)) refl refl refl x))
  turn (x3 x) e =
      grant (tens x + 4)
      (ap candidate_spin_place e ∙ each (λ x. candidate_spin_place (tens x + 3)) refl refl refl x)
      (ap candidate_place e ∙ each (λ x. candidate_place (tens x + 3)) refl refl refl x)
      (each (λ x. candidate_place (tens x + 4)) refl refl refl x)
  turn (x4 x) e =
      away _ e (each (λ x. candidate_spin_place (tens x + 4)) refl refl refl x) refl
      (split (λ (p : Port). candidate_place p.point ≡ false) (eqb v.word.taken 1 && ltb 0 v.word.spin) _ _
      (λ q. each (λ x. candidate_place (tens x + 5)) refl refl refl x)
      (λ q. each (λ x. candidate_place (back x)) refl refl refl x))
  turn (x5 x) e =
      away _ e (each (λ x. candidate_spin_place (tens x + 5)) refl refl refl x) refl (each (λ x. candidate_place (back x)) refl refl refl x)
