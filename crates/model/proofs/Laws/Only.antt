-- Which orders can change the word, a port's bit in ACTIVE, its GO and its STATUS: steps at a few points alone.
use Rattle.std.specs.Prelude.{◌≡◌, Bool, true, false, ◌||◌, List, [], ◌∷◌, eqb}
use Rattle.std.proofs.Math.Path.{refl}
use Rattle.std.proofs.Common.{sym, ap, subst, ◌∙◌, true≢false, le_trans}
use Prim.Native.Nat.{ℕ, ◌+◌, ◌≤◌}
use Rattle.std.proofs.Math.Decide.{ℕ_discrete}
use Rattle.std.proofs.lemmas.Bool.{eqb-false}
use Rattle.model.specs.declared.Port.{Port}
use Rattle.model.specs.declared.Table.{Table}
use Rattle.model.specs.Table.{room, Sized, port_at}
use Rattle.model.specs.Mask.{stands}
use Rattle.model.specs.Points.{Tens, two, three, four, p6, p15, tens, point_of, one_of}
use Rattle.model.specs.Step.{with_value}
use Rattle.model.specs.Event.{ordered}
use Rattle.model.specs.Parts.Moves.{step}
use Rattle.model.specs.Parts.Steps.{stepped}
use Rattle.model.specs.Run.{Order, after, steps_at}
use Rattle.model.proofs.Laws.Mask.{set_other, cleared-other, within-lt}
use Rattle.model.proofs.Laws.Rules.{shared-rules, port-rules}
use Rattle.model.proofs.Laws.Cases.{Allowed, Stepped, after-case}
use Rattle.model.proofs.Laws.Own.{move_at}
use Rattle.model.proofs.Laws.After.{step_after}
use Rattle.model.proofs.Laws.Ports.{put-own}
use Rattle.model.proofs.Laws.Grants.{stepped-done}
use Rattle.model.proofs.Laws.Changes.{step_kept, ordered-rest, other-rest}

-- a number that is none of a list is not its first, and none of the rest
first-not : (n m : ℕ) (ms : List ℕ) → one_of n (m ∷ ms) ≡ false → (n ≡ m → ⊥) × (one_of n ms ≡ false)
unfolding one_of
first-not n m ms e = go (eqb n m) refl e
  where
    go : (b : Bool) → eqb n m ≡ b → (b || one_of n ms) ≡ false → (n ≡ m → ⊥) × (one_of n ms ≡ false)
    go true p q = absurd (true≢false q)
    go false p q = (eqb-false n m p, q)

module _ (t : Table) (o : Order) (s : Sized t) where
  -- a step at a point that is none of these
  elsewhere : (ns : List ℕ) → steps_at o.port ns t o ≡ false → Stepped t o → one_of (port_at t o.port).point ns ≡ false
  unfolding steps_at
  elsewhere ns e c = rw (stepped-done t o c) at e

  -- the word changes only by a step at 17 or at x3
  pub only-word : steps_at o.port (17 ∷ 23 ∷ 33 ∷ 43 ∷ []) t o ≡ false → (after t o).shared.word ≡ t.shared.word
  unfolding tens
  only-word e = after-case t o (λ (u : Table). u.shared.word ≡ t.shared.word) refl (λ c. refl) (λ c. go c)
    where
      go : Stepped t o → (stepped t o.port).table.shared.word ≡ t.shared.word
      go c =
          let a = first-not _ 17 _ (elsewhere _ e c) in
          let b = first-not _ 23 _ a.1 in
          let d = first-not _ 33 _ b.1 in
          let f = first-not _ 43 _ d.1 in
          (step_kept t o.port s c.fits (port-rules t o.port c.sound c.port).point).word a.0
          (λ x. elim x as (λ (y : Tens). (port_at t o.port).point ≡ tens y + 3 → ⊥) [ two ↦ b.0 | three ↦ d.0 | four ↦ f.0 ])

  -- a field of a port that only steps of its own port change, and those only where the step of the order does
  field : (f : Port → ℕ) → ((p : Port) (a : ℕ) → f (with_value a p) ≡ f p) → ((e : ℕ) (p : Port) → Allowed e p → f (ordered e p) ≡ f p)
      → (k : ℕ) → (k ≡ o.port → Stepped t o → f (port_at (stepped t o.port).table o.port) ≡ f (port_at t o.port))
      → f (port_at (after t o) k) ≡ f (port_at t k)
  field f v w k g = elim (ℕ_discrete k o.port) [
    | yes q ↦ subst (λ (j : ℕ). f (port_at (after t o) j) ≡ f (port_at t j)) (sym q)
        (after-case t o (λ (u : Table). f (port_at u o.port) ≡ f (port_at t o.port)) refl
        (λ c. ap f (put-own t o.port _ s c.fits) ∙ w o.event _ c.allowed)
        (λ c. g q c))
    | no q ↦ ap f (other-rest t o k q) ∙ v (port_at t k) _
  ]

  -- the point of the stepping port is none of these, where it is port k that must not step there
  own-elsewhere : (k : ℕ) (ns : List ℕ) → steps_at k ns t o ≡ false → k ≡ o.port → Stepped t o → one_of (port_at t o.port).point ns ≡ false
  own-elsewhere k ns e q = elsewhere ns (subst (λ (j : ℕ). steps_at j ns t o ≡ false) q e)

  -- GO k changes only by k's steps at 4 and 18, STATUS k by those at 10, 12, 13 and 19
  pub only-go : (k : ℕ) → steps_at k (4 ∷ 18 ∷ []) t o ≡ false → (port_at (after t o) k).go ≡ (port_at t k).go
  only-go k e =
      field (λ (p : Port). p.go) (λ p a. refl) (λ i p a. ap (λ (r : Port). r.go) (ordered-rest i p a)) k
      (λ q c.
      let a = first-not _ 4 _ (own-elsewhere k _ e q c) in
      let b = first-not _ 18 _ a.1 in
      (step_kept t o.port s c.fits (port-rules t o.port c.sound c.port).point).go a.0 b.0)

  pub only-status : (k : ℕ) → steps_at k (10 ∷ 12 ∷ 13 ∷ 19 ∷ []) t o ≡ false → (port_at (after t o) k).status ≡ (port_at t k).status
  only-status k e =
      field (λ (p : Port). p.status) (λ p a. refl) (λ i p a. ap (λ (r : Port). r.status) (ordered-rest i p a)) k
      (λ q c.
      let a = first-not _ 10 _ (own-elsewhere k _ e q c) in
      let b = first-not _ 12 _ a.1 in
      let d = first-not _ 13 _ b.1 in
      let f = first-not _ 19 _ d.1 in
      (step_kept t o.port s c.fits (port-rules t o.port c.sound c.port).point).status a.0 b.0 d.0 f.0)

  -- bit k changes only by k's steps at 6 and 15
  pub only-bit : room ≤ 64 → (k : ℕ) → steps_at k (6 ∷ 15 ∷ []) t o ≡ false → stands (after t o).shared.active k ≡ stands t.shared.active k
  unfolding step
  only-bit wide k e = after-case t o (λ (u : Table). stands u.shared.active k ≡ stands t.shared.active k) refl (λ c. refl) (λ c. go c)
    where
      n : ℕ
      n = (port_at t o.port).point

      kept : Stepped t o → (n ≡ 6 → ⊥) → (n ≡ 15 → ⊥) → stands (stepped t o.port).table.shared.active k ≡ stands t.shared.active k
      kept c a b =
          ap (λ (m : ℕ). stands m k) ((step_kept t o.port s c.fits (port-rules t o.port c.sound c.port).point).active a b)

      other : Stepped t o → (k ≡ o.port → ⊥) → stands (stepped t o.port).table.shared.active k ≡ stands t.shared.active k
      other c a =
          let r = shared-rules t c.sound in
          let p = port-rules t o.port c.sound c.port in
          let w = le_trans r.fits wide in
          elim (ℕ_discrete n 6) [
            | yes q ↦ rw ((step_after t o.port).active, move_at t o.port p6 (ap point_of q)) (set_other c.port w (within-lt _ _ r.active) (p.clear q) a)
            | no x ↦ elim (ℕ_discrete n 15) [
              | yes q ↦ rw ((step_after t o.port).active, move_at t o.port p15 (ap point_of q)) (cleared-other c.port w (within-lt _ _ r.active) (p.set q) a)
              | no y ↦ kept c x y
            ]
          ]

      go : Stepped t o → stands (stepped t o.port).table.shared.active k ≡ stands t.shared.active k
      go c = elim (ℕ_discrete k o.port) [
        | yes q ↦
            let a = first-not _ 6 _ (own-elsewhere k _ e q c) in
            let b = first-not _ 15 _ a.1 in
            kept c a.0 b.0
        | no q ↦ other c q
      ]
