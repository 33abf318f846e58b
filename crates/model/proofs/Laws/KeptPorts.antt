-- The rules of the ports from one table to the next: they hold of every port where they hold of the one that the event is of.
use Rattle.std.specs.Prelude.{◌≡◌, Bool, ℕ, ◌≤◌, ◌<◌}
use Rattle.std.proofs.Common.{sym, subst, arith}
use Rattle.std.proofs.Math.Decide.{ℕ_discrete}
use Rattle.model.specs.declared.Word.{Word}
use Rattle.model.specs.declared.Port.{Port}
use Rattle.model.specs.declared.Table.{Table}
use Rattle.model.specs.Table.{port_at}
use Rattle.model.specs.Mask.{stands}
use Rattle.model.specs.Step.{with_value}
use Rattle.model.proofs.Laws.Sound.{made_of, WordBounds, Fit}

-- where ports have made more spins, the rules for a port and for the word still hold
module _ (d : ℕ) (made more : ℕ → ℕ) (g : (j : ℕ) → made j ≤ more j) where
  fit-grows : (bit : Bool) (p : Port) → Fit d made bit p → Fit d more bit p
  fit-grows bit p f =
      record {
        bounds = omega (arith, f.bounds, g p.work.seenowner, g p.work.candidate);
        enters = f.enters;
        rests = f.rests;
      }

  pub word-grows : (w : Word) → WordBounds d made w → WordBounds d more w
  word-grows w b = omega (arith, g w.owner)

-- the value of the latest spin can become 1 where there is one
pub value-fit : (d : ℕ) (made : ℕ → ℕ) (bit : Bool) (p : Port) → (p.made ≡ 0 → ⊥) → Fit d made bit p → Fit d made bit (with_value 1 p)
value-fit d made bit p n f = record { bounds = omega (arith, f.bounds); enters = f.enters; rests = f.rests }

module _ (t u : Table) (k : ℕ) where
  -- from table t to u no port's made falls, where that of port k does not and the others' stay
  pub grown : made_of t k ≤ made_of u k → ((j : ℕ) → (j ≡ k → ⊥) → made_of u j ≡ made_of t j) → (j : ℕ) → made_of t j ≤ made_of u j
  grown own other j = elim (ℕ_discrete j k) [
    | yes q ↦ rw q own
    | no n ↦ omega (arith, other j n)
  ]

  -- with ACTIVE a in t and b in u, the rules hold of every port
  pub ports-fit : (d a b : ℕ) → ((j : ℕ) → made_of t j ≤ made_of u j) → ((j : ℕ) → (j ≡ k → ⊥) → stands b j ≡ stands a j)
      → Fit d (made_of t) (stands b k) (port_at u k)
      → ((j : ℕ) → j < d → (j ≡ k → ⊥) → Fit d (made_of t) (stands a j) (port_at u j))
      → (j : ℕ) → j < d → Fit d (made_of u) (stands b j) (port_at u j)
  ports-fit d a b g o own other j l =
      fit-grows d (made_of t) (made_of u) g _ _
      (elim (ℕ_discrete j k) [
        | yes q ↦ subst (λ (i : ℕ). Fit d (made_of t) (stands b i) (port_at u i)) (sym q) own
        | no n ↦ rw (o j n) (other j l n)
      ])
