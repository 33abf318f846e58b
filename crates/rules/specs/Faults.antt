-- What is bad, as the code looks for it.
use Rattle.std.specs.Prelude.{◌≡◌, refl, Bool, true, false, cond, not, ◌&&◌, ◌||◌, ℕ, ◌+◌, ◌*◌, eqb, ltb, take, drop}
use Rattle.std.proofs.Common.{sym, ap, ◌∙◌, arith}
use Rattle.std.proofs.Math.Bool.{or-false, or_assoc}
use Rattle.std.proofs.lemmas.Bool.{false≢true}
use mathlib.Core.List.{List, [], ◌∷◌, ◌++◌, foldl}
use Rattle.model.specs.declared.Fault.{Fault}
use Rattle.model.specs.declared.Shared.{Shared}
use Rattle.model.specs.Table.{size_good}
use Rattle.model.specs.Points.{one_of}
use Rattle.model.specs.Bytes.{sum}
use Rattle.model.specs.Layout.{port_widths, set_width, port_place}
use Rattle.model.specs.Good.{Rule, implies, fault, whole, spin_field, shared_rules, nowhere, lower}
use Rattle.model.proofs.Laws.Faults.{bad-append}

-- the field that a spin number of port k is charged to, by the bytes before it
unfoldable pub spin_fault : ℕ → ℕ → ℕ → Fault
spin_fault k j before = cond (ltb k j) (fault 2 j (port_place j + 4)) (fault 3 k (port_place k + before))

-- a list of rules, put in other words
pub ruled : {a b : Bool} {x y : Fault} {r s : List Rule} → a ≡ b → x ≡ y → r ≡ s → ((a, x) ∷ r) ≡ ((b, y) ∷ s)
ruled p q e = rw (p, q, e)

-- the places of copy sets, counted by sets
pub first : (d n : ℕ) → n + 0 * set_width d ≡ n + 0
first d n = omega arith

pub second : (d n : ℕ) → n + 1 * set_width d ≡ n + (set_width d + 0)
second d n = omega arith

pub third : (d n : ℕ) → n + 2 * set_width d ≡ n + (set_width d + (set_width d + 0))
third d n = omega arith

-- a value that is 0 outside its points; the points where a seen spin is set
pub outside : (a b x : Bool) → a ≡ b → (a || x) ≡ implies (not b) x
outside a b x e = rw e (go b)
  where
    go : (b : Bool) → (b || x) ≡ implies (not b) x
    go true = refl
    go false = refl

pub setting : (n : ℕ) (x : Bool) → (not (eqb n 25 || eqb n 35 || eqb n 45) || x) ≡ implies (one_of n (25 ∷ 35 ∷ 45 ∷ [])) x
unfolding one_of
setting n x = rw (or-false (eqb n 45), or_assoc (eqb n 25) (eqb n 35) (eqb n 45))

-- a spin number's field, as the rules have it
pub spun : (k j i : ℕ) → spin_fault k j (sum (take i port_widths)) ≡ spin_field k j i
unfolding spin_fault sum port_widths
spun k j i = refl

-- nothing is bad so far
pub sound-start : (a b : Bool) → (a && b) ≡ true → nowhere ≡ lower (lower nowhere (a, whole)) (b, whole)
unfolding lower
sound-start true true e = refl
sound-start true false e = absurd (false≢true e)
sound-start false b e = absurd (false≢true e)

-- a fault of zeros is that of the table as a whole; and one past every image is nowhere
pub zeros : (f : Fault) → (f.kind ≡ 0) × ((f.port ≡ 0) × (f.place ≡ 0)) → f ≡ whole
zeros f h =
    ap (λ (n : ℕ). fault n f.port f.place) h.0
    ∙ ap (λ (n : ℕ). fault 0 n f.place) h.1.0
    ∙ ap (fault 0 0) h.1.1

-- the rules after those for the table as a whole, where these hold
pub after-start : (empty : Bool) (s : Shared) (n : ℕ) → (size_good s.d && empty) ≡ true
    → foldl lower nowhere (drop 2 (shared_rules true s n)) ≡ foldl lower nowhere (shared_rules empty s n)
unfolding shared_rules
after-start empty s n e = ap (λ (f : Fault). foldl lower f (drop 2 (shared_rules true s n))) (sound-start (size_good s.d) empty e)

-- three lists one after the other
pub in_parts : (f a b r : Fault) (x y z : List Rule) → a ≡ foldl lower f x → b ≡ foldl lower a y → r ≡ foldl lower b z → r ≡ foldl lower f (x ++ (y ++ z))
in_parts f a b r x y z p q s =
    s
    ∙ ap (λ (g : Fault). foldl lower g z) (q ∙ ap (λ (g : Fault). foldl lower g y) p)
    ∙ sym (bad-append f x (y ++ z) ∙ bad-append (foldl lower f x) y z)
