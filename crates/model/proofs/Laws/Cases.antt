-- What an order does to a table, in three cases: it is refused, it is an event that is no step, or it is a step.
use Rattle.std.specs.Prelude.{◌≡◌, Bool, cond, not, ◌&&◌, List, [], ◌∷◌, ℕ, zero, suc, ◌≤◌, ◌<◌, eqb, leb, get_or}
use Rattle.std.proofs.Math.Path.{refl, ap}
use Rattle.std.proofs.Common.{sym, ◌∙◌, subst, true≢false, arith}
use Rattle.std.proofs.Math.Bool.{true, false, and-eq-true_iff}
use Rattle.std.proofs.Math.Nat.{le_trans}
use borrow.Author.Tests.{leb-true, leb-false, eqb-true, eqb-false, eq-eqb, not-true, not-false}
use Rattle.model.specs.declared.Port.{Port}
use Rattle.model.specs.declared.Table.{Table}
use Rattle.model.specs.declared.Answer.{Answer}
use Rattle.model.specs.declared.Answer.TheVariants.{Done, BadTable, NoSuchPort}
use Rattle.model.specs.Table.{room, most, no_work, port_at, put_port}
use Rattle.model.specs.Good.{good, bad_in}
use Rattle.model.specs.Cost.{free}
use Rattle.model.specs.Step.{at, with_flag, with_work}
use Rattle.model.specs.Event.{number_of, enter, stepping, crash, call_off, leave, first_of, refusals, refusal, ordered, event}
use Rattle.model.specs.Parts.Steps.{stepped}
use Rattle.model.specs.Run.{Order, order, answered, after}
use Rattle.model.proofs.Laws.Stepped.{carried-parts}
use Rattle.model.proofs.Laws.Rules.{shared-rules}

-- an event that is no step and is not refused at port p, with what becomes of the port
pub data Allowed (e : ℕ) (p : Port) : Type 0 where
  enters : e ≡ enter → p.point ≡ 0 → (p.made ≡ most → ⊥) → ordered e p ≡ at 1 p → Allowed e p
  crashes : e ≡ crash → (p.point ≡ 0 → ⊥) → ordered e p ≡ at 1 (with_work no_work p) → Allowed e p
  calls_off : e ≡ call_off → (p.point ≡ 0 → ⊥) → ordered e p ≡ with_flag 1 p → Allowed e p
  leaves : e ≡ leave → p.point ≡ 11 → ordered e p ≡ at 13 p → Allowed e p

-- the order is refused: it gives the table that it got, and costs 0
pub record Refused (t : Table) (o : Order) : Type 0 where
  pub kept : after t o ≡ t
  pub cached : (answered t o).cached ≡ 0
  pub distributed : (answered t o).distributed ≡ 0
  pub answer : number_of (answered t o).answer ≡ 0 → ⊥

-- the order is carried out, and is no step: it changes the record of its port alone, and costs 0
pub record Ordered (t : Table) (o : Order) : Type 0 where
  pub sound : good t ≡ true
  pub port : o.port < t.shared.d
  pub fits : o.port < room
  pub allowed : Allowed o.event (port_at t o.port)
  pub table : after t o ≡ put_port t o.port (ordered o.event (port_at t o.port))
  pub cached : (answered t o).cached ≡ 0
  pub distributed : (answered t o).distributed ≡ 0
  pub answer : (answered t o).answer ≡ Done

-- the order is carried out, and is a step
pub record Stepped (t : Table) (o : Order) : Type 0 where
  pub sound : good t ≡ true
  pub event : o.event ≡ stepping
  pub port : o.port < t.shared.d
  pub fits : o.port < room
  pub busy : (port_at t o.port).point ≡ 0 → ⊥
  pub outside : (port_at t o.port).point ≡ 11 → ⊥
  pub unworn : (port_at t o.port).point ≡ 4 → (port_at t o.port).made ≡ most → ⊥
  pub outcome : answered t o ≡ stepped t o.port
  pub table : after t o ≡ (stepped t o.port).table
  pub answer : (answered t o).answer ≡ Done

pub data Case (t : Table) (o : Order) : Type 0 where
  was_refused : Refused t o → Case t o
  was_ordered : Ordered t o → Case t o
  was_stepped : Stepped t o → Case t o

-- where none of the answers of a list is DONE, and yet the first that applies is, no test of the list passes
refuses : List (Bool × Answer) → Bool
refuses [] = true
refuses (r ∷ rs) = not (eqb (number_of r.1) 0) && refuses rs

unpassed : (rs : List (Bool × Answer)) → refuses rs ≡ true → number_of (first_of rs) ≡ 0 → (i : ℕ) → (get_or rs i (false, Done)).0 ≡ false
unfolding refuses first_of
unpassed [] e q i = refl
unpassed (r ∷ rs) e q i =
    let both = (and-eq-true_iff (not (eqb (number_of r.1) 0)) (refuses rs)).0 e in
    go r.0 r.1 (not-true _ both.0) q i (unpassed rs both.1)
  where
    go : (b : Bool) (a : Answer) → eqb (number_of a) 0 ≡ false → number_of (cond b a (first_of rs)) ≡ 0 → (i : ℕ)
        → (number_of (first_of rs) ≡ 0 → (i : ℕ) → (get_or rs i (false, Done)).0 ≡ false)
        → (get_or ((b, a) ∷ rs) i (false, Done)).0 ≡ false
    go true a e q i below = absurd (eqb-false _ _ e q)
    go false a e q zero below = refl
    go false a e q (suc i) below = below q i

-- what the refusals leave of an event that is no step, and of a step
Unrefused : ℕ → Port → Type 0
Unrefused e p = (i : ℕ) → (get_or (refusals e p) i (false, Done)).0 ≡ false

allowed : (e : ℕ) (p : Port) → Unrefused e p → eqb e stepping ≡ false → Allowed e p
unfolding Unrefused refusals ordered
allowed zero p h n = absurd (true≢false (h 0))
allowed (suc zero) p h n =
    let idle = not-false (eqb p.point 0) (h 1) in
    enters refl (eqb-true _ _ idle) (eqb-false _ _ (rw idle at (h 2))) refl
allowed (suc (suc zero)) p h n = absurd (true≢false n)
allowed (suc (suc (suc zero))) p h n = crashes refl (eqb-false _ _ (h 4)) refl
allowed (suc (suc (suc (suc zero)))) p h n = calls_off refl (eqb-false _ _ (h 4)) refl
allowed (suc (suc (suc (suc (suc zero))))) p h n = leaves refl (eqb-true _ _ (not-false _ (h 3))) refl
allowed (suc (suc (suc (suc (suc (suc e)))))) p h n =
    let known = ((and-eq-true_iff (leb 1 (suc (suc (suc (suc (suc (suc e))))))) _).0 (not-false _ (h 0))).1 in
    let below : suc (suc (suc (suc (suc (suc e))))) ≤ 5 = leb-true _ _ known in
    absurd (omega arith)

steps : (p : Port) → Unrefused stepping p
    → (p.point ≡ 0 → ⊥) × (p.point ≡ 11 → ⊥) × (p.point ≡ 4 → p.made ≡ most → ⊥)
unfolding Unrefused refusals
steps p h = (eqb-false _ _ (h 4), eqb-false _ _ (h 5), λ q. eqb-false _ _ (rw (eq-eqb p.point 4 q) at (h 2)))

-- a step that no refusal stands against is not worn
pub unrefused-step : (p : Port) → number_of (first_of (refusals stepping p)) ≡ 0 → p.point ≡ 4 → p.made ≡ most → ⊥
unfolding Unrefused refuses refusals
unrefused-step p e = (steps p (unpassed (refusals stepping p) refl e)).2

module _ (t : Table) (o : Order) where
  -- what an order answers, by two tests: there is no refusal, the event is a step
  shape : (r s : Bool) → eqb (number_of (refusal t o.port o.event)) 0 ≡ r → eqb o.event stepping ≡ s
      → answered t o
      ≡ cond r
      (cond s (stepped t o.port) (free Done (put_port t o.port (ordered o.event (port_at t o.port)))))
      (free (refusal t o.port o.event) t)
  unfolding event
  shape r s er es = rw (carried-parts t o.port o.event, er, es)

  -- what an answer that is not DONE, and no refusal, say of the order
  refused-by : (a : Answer) → eqb (number_of a) 0 ≡ false → answered t o ≡ free a t → Refused t o
  refused-by a e q =
      record {
        kept = ap (λ u. u.table) q;
        cached = ap (λ u. u.cached) q;
        distributed = ap (λ u. u.distributed) q;
        answer = λ z. eqb-false _ _ e (sym (ap (λ u. number_of u.answer) q) ∙ z);
      }

  unrefused : eqb (number_of (refusal t o.port o.event)) 0 ≡ true
      → (good t ≡ true) × (o.port < t.shared.d) × Unrefused o.event (port_at t o.port)
  unfolding refusal refuses refusals Unrefused
  unrefused e =
      let h = unpassed ((not (good t), BadTable (bad_in t)) ∷ (leb t.shared.d o.port, NoSuchPort) ∷ refusals o.event (port_at t o.port)) refl (eqb-true _ _ e) in
      (not-false _ (h 0), leb-false _ _ (h 1), λ i. h (suc (suc i)))

  -- every order is one of the three
  by_tests : (r s : Bool) → eqb (number_of (refusal t o.port o.event)) 0 ≡ r → eqb o.event stepping ≡ s → Case t o
  unfolding stepped
  by_tests false s er es = was_refused (refused-by (refusal t o.port o.event) er (shape false s er es))
  by_tests true false er es =
      let q = shape true false er es in
      let u = unrefused er in
      was_ordered
      (record {
        sound = u.0;
        port = u.1;
        fits = le_trans u.1 (shared-rules t u.0).fits;
        allowed = allowed o.event (port_at t o.port) u.2 es;
        table = ap (λ u. u.table) q;
        cached = ap (λ u. u.cached) q;
        distributed = ap (λ u. u.distributed) q;
        answer = ap (λ u. u.answer) q;
      })
  by_tests true true er es =
      let q = shape true true er es in
      let u = unrefused er in
      let e : o.event ≡ stepping = eqb-true _ _ es in
      let can = steps (port_at t o.port) (subst (λ (n : ℕ). Unrefused n (port_at t o.port)) e u.2) in
      was_stepped
      (record {
        sound = u.0;
        event = e;
        port = u.1;
        fits = le_trans u.1 (shared-rules t u.0).fits;
        busy = can.0;
        outside = can.1;
        unworn = can.2;
        outcome = q;
        table = ap (λ u. u.table) q;
        answer = ap (λ u. u.answer) q;
      })

  pub cases : Case t o
  cases = by_tests (eqb (number_of (refusal t o.port o.event)) 0) (eqb o.event stepping) refl refl

  -- what holds of the table as it was, of an event that is no step and of a step holds of the table after the order
  pub after-case : (P : Table → Type 0) → P t
      → (Ordered t o → P (put_port t o.port (ordered o.event (port_at t o.port))))
      → (Stepped t o → P (stepped t o.port).table)
      → P (after t o)
  after-case P p f g = go cases
    where
      go : Case t o → P (after t o)
      go (was_refused c) = rw c.kept p
      go (was_ordered c) = rw c.table (f c)
      go (was_stepped c) = rw c.table (g c)

-- a refused event costs nothing and gives the table that it got; an event that is no step costs nothing
pub refused-free : (t : Table) (k e : ℕ) → (number_of (event t k e).answer ≡ 0 → ⊥) → event t k e ≡ free (event t k e).answer t
refused-free t k e n = go (cases t (order k e))
  where
    go : Case t (order k e) → event t k e ≡ free (event t k e).answer t
    go (was_refused c) =
        λ i. record { table = c.kept i; cached = c.cached i; distributed = c.distributed i; answer = (event t k e).answer }
    go (was_ordered c) = absurd (n (ap number_of c.answer))
    go (was_stepped c) = absurd (n (ap number_of c.answer))

pub orders-free : (t : Table) (k e : ℕ) → (e ≡ stepping → ⊥) → ((event t k e).cached ≡ 0) × ((event t k e).distributed ≡ 0)
orders-free t k e n = go (cases t (order k e))
  where
    go : Case t (order k e) → ((event t k e).cached ≡ 0) × ((event t k e).distributed ≡ 0)
    go (was_refused c) = (c.cached, c.distributed)
    go (was_ordered c) = (c.cached, c.distributed)
    go (was_stepped c) = absurd (n c.event)
