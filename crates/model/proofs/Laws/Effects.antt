-- What a step does, point by point: what becomes of the word, of its port's spin, and of what its port has seen when it comes to x5.
use Rattle.std.specs.Prelude.{◌≡◌, Bool, true, false, cond, ◌&&◌, [], ◌∷◌, ℕ, ◌+◌, ◌≤◌, ◌<◌, eqb}
use Rattle.std.proofs.Math.Path.{refl}
use Rattle.std.proofs.Common.{sym, ◌∙◌, ap, arith, eqb-true}
use Rattle.std.proofs.lemmas.Bool.{false≢true}
use Rattle.std.proofs.Math.Bool.{and-eq-true_iff}
use Rattle.std.proofs.Math.Dec.{ltb}
use Rattle.model.specs.declared.Word.{Word}
use Rattle.model.specs.declared.Work.{Work}
use Rattle.model.specs.declared.Port.{Port}
use Rattle.model.specs.declared.View.{View}
use Rattle.model.specs.Table.{CS, EXIT, word, read_spin}
use Rattle.model.specs.Points.{Tens, two, three, four, Point, none, p0, p1, p2, p3, p4, p5, p6, p8, p9, p10, p11, p12, p13, p14, p15, p16, p17, p18, p19, x0, x1, x2, x3, x4, x5, tens, back, one_of, seen_place, settled}
use Rattle.model.specs.Step.{at, with_seen, with_work, same, swapped, unasked}
use Rattle.model.specs.Parts.Moves.{up, bit, released, granted, step}
use Rattle.model.proofs.Laws.Tests.{conjunct, split}
use Rattle.model.proofs.Laws.Own.{number_of_point}
use Rattle.model.proofs.Laws.Life.{Leaving, StandingOf}
use Rattle.model.proofs.Laws.Turn.{each}

-- the word is taken, by port j with spin g
pub record Held (w : Word) (j g : ℕ) : Type 0 where
  pub taken : w.taken ≡ 1
  pub owner : w.owner ≡ j
  pub spin : w.spin ≡ g

-- a port with STATUS s and GO g has a spin that counts: STATUS is TRY or CS, the first two codes, and GO is above 0
pub record Counts (s g : ℕ) : Type 0 where
  pub status : s ≤ CS
  pub some : 0 < g

-- 25, 35 and 45; a port there that has seen spin g of port j
unfoldable pub setting : ℕ → Bool
unfolding one_of
setting n = one_of n (25 ∷ 35 ∷ 45 ∷ [])

pub record Saw (n : ℕ) (w : Work) (j g : ℕ) : Type 0 where
  pub point : setting n ≡ true
  pub owner : w.seenowner ≡ j
  pub spin : w.seenspin ≡ g

-- what becomes of the word by the step of a port that sees v: it stays; it was free, and is granted to the candidate with the candidate spin; or
-- the port, on its way out, held it with its own spin, and lets it go
pub data Fate (v : View) (w : Word) : Type 0 where
  stays : w ≡ v.word → Fate v w
  grants : v.word.taken ≡ 0 → Held w v.own.work.candidate v.own.work.candidatespin → Fate v w
  releases : Leaving v.own.status → Held v.word v.k v.own.work.own → w.taken ≡ 0 → Fate v w

-- where a spin that counts comes from, g with value a after the step of port p: it counted before, with the same value; or it is new, made at 4 with
-- value 0
pub data Origin (p : Port) (g a : ℕ) : Type 0 where
  before : Counts p.status p.go → g ≡ p.go → a ≡ p.value → Origin p g a
  new : p.point ≡ 4 → g ≡ p.made + 1 → a ≡ 0 → Origin p g a

-- the step of a port that sees v leaves q of the port, and the word w; what the port has seen when it comes to x5 is who holds the word
pub record Effect (v : View) (q : Port) (w : Word) : Type 0 where
  pub word : Fate v w
  pub spin : Counts q.status q.go → Origin v.own q.go q.value
  pub saw : {j g : ℕ} → Saw q.point q.work j g → Held w j g

-- the parts of a word that is the same as another
alike : (w : Word) (i j g : ℕ) → same w (word i j g) ≡ true → (w.taken ≡ i) × (w.owner ≡ j) × (w.spin ≡ g)
unfolding same
alike w i j g e =
    let parts = conjunct (eqb w.taken i) (eqb w.owner j ∷ eqb w.spin g ∷ []) e in
    (eqb-true _ _ (parts 0), eqb-true _ _ (parts 1), eqb-true _ _ (parts 2))

module _ (v : View) where
  abbrev me : Port
  me = v.own

  -- a step to another point than 25, 35 and 45
  away : (q : Port) (w : Word) → setting q.point ≡ false → Fate v w → (Counts q.status q.go → Origin me q.go q.value)
      → Effect v (settled q) w
  unfolding settled
  away q w e f o = record { word = f; spin = o; saw = λ s. absurd (false≢true (sym e ∙ s.point)) }

  -- such a step that leaves the word, and STATUS, GO and latest value of its port; the same with a choice of two points
  quiet : (u : Work) (n : ℕ) → setting n ≡ false → Effect v (settled (at n (with_work u me))) v.word
  quiet u n e = away _ _ e (stays refl) (λ c. before c refl refl)

  either : (u : Work) (b : Bool) (m n : ℕ) → setting m ≡ false → setting n ≡ false
      → Effect v (settled (at (cond b m n) (with_work u me))) v.word
  either u b m n e f = quiet u (cond b m n) (split (λ (i : ℕ). setting i ≡ false) b m n (λ _. e) (λ _. f))

  -- 17 and x3: the swaps of the word
  release : Leaving me.status → Fate v (released v)
  unfolding released swapped
  release r =
      split (Fate v) (same v.word (word 1 v.k me.work.own)) _ _
      (λ e. let a = alike _ _ _ _ e in releases r (record { taken = a.0; owner = a.1; spin = a.2 }) refl)
      (λ e. stays refl)

  grant : Fate v (granted v)
  unfolding granted swapped
  grant =
      split (Fate v) (same v.word (word 0 me.work.seenowner me.work.seenspin)) _ _
      (λ e. grants (alike _ _ _ _ e).0 (record { taken = refl; owner = refl; spin = refl }))
      (λ e. stays refl)

  -- x1 where ACTIVE is 0
  unasked-effect : (x : Tens) → Effect v (settled (unasked x v.k v.own)) v.word
  unfolding unasked setting
  unasked-effect two = quiet _ 24 refl
  unasked-effect three = quiet _ 32 refl
  unasked-effect four = quiet _ 44 refl

  -- x4: what is seen is the word, which is taken
  see : (n : ℕ) → seen_place n ≡ true → v.word.taken ≡ 1 → Effect v (settled (at n (with_seen v.word me))) v.word
  unfolding settled
  see n e t =
      record {
        word = stays refl;
        spin = λ c. before c refl refl;
        saw = λ s. record { taken = t; owner = rw e at s.owner; spin = rw e at s.spin };
      }

  -- every point
  pub effect : (q : Point) → me.point ≡ number_of_point q → StandingOf q me → Effect v (settled (step q v).own) (step q v).word
  unfolding step number_of_point setting seen_place tens back
  effect none e r = absurd r
  effect p0 e r = quiet _ _ (ap setting e)
  effect p1 e r =
      either _ (eqb me.status CS) 11 _ refl
      (split (λ (i : ℕ). setting i ≡ false) (eqb me.status EXIT) 13 2 (λ _. refl) (λ _. refl))
  effect p2 e r = either _ (up v) 12 3 refl refl
  effect p3 e r = either _ (eqb me.go 0) 4 5 refl refl
  effect p4 e r = away _ _ refl (stays refl) (λ c. new e refl refl)
  effect p5 e r = either _ (bit v) 20 6 refl refl
  effect p6 e r = quiet _ 20 refl
  effect p8 e r = either _ (eqb (read_spin me me.work.own) 1) 10 9 refl refl
  effect p9 e r = either _ (up v) 12 8 refl refl
  effect p10 e r = away _ _ refl (stays refl) (λ c. before (omega arith) refl refl)
  effect p11 e r = quiet _ _ (ap setting e)
  effect p12 e r = away _ _ refl (stays refl) (λ c. absurd (omega arith))
  effect p13 e r = away _ _ refl (stays refl) (λ c. absurd (omega arith))
  effect p14 e r = either _ (bit v) 15 16 refl refl
  effect p15 e r = quiet _ 16 refl
  effect p16 e r = quiet _ 30 refl
  effect p17 e r = away _ _ refl (release r.0) (λ c. before c refl refl)
  effect p18 e r = away _ _ refl (stays refl) (λ c. absurd (omega arith))
  effect p19 e r = away _ _ refl (stays refl) (λ c. absurd (omega arith))
  effect (x0 x) e r =
      quiet _ _ (split (λ (i : ℕ). setting (tens x + i) ≡ false) (eqb v.word.taken 1) 4 1
      (λ _. each (λ x. setting (tens x + 4)) refl refl refl x)
      (λ _. each (λ x. setting (tens x + 1)) refl refl refl x))
  effect (x1 x) e r =
      split (λ (p : Port). Effect v (settled p) v.word) (eqb v.active 0) _ _ (λ _. unasked-effect x)
      (λ _. quiet _ _ (each (λ x. setting (tens x + 2)) refl refl refl x))
  effect (x2 x) e r = quiet _ _ (each (λ x. setting (tens x + 3)) refl refl refl x)
  effect (x3 x) e r = away _ _ (each (λ x. setting (tens x + 4)) refl refl refl x) grant (λ c. before c refl refl)
  effect (x4 x) e r =
      split (λ (p : Port). Effect v (settled p) v.word) (eqb v.word.taken 1 && ltb 0 v.word.spin) _ _
      (λ u. see _ (each (λ x. seen_place (tens x + 5)) refl refl refl x) (eqb-true _ _ ((and-eq-true_iff (eqb v.word.taken 1) _).0 u).0))
      (λ u. quiet _ _ (each (λ x. setting (back x)) refl refl refl x))
  effect (x5 x) e r = quiet _ _ (each (λ x. setting (back x)) refl refl refl x)
