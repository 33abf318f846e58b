-- What is found in a table, by whether it is good.
use Rattle.std.specs.Prelude.{◌≡◌, refl, cond, None, Some}
use Rattle.std.proofs.Common.{ap, ◌∙◌}
use Rattle.std.proofs.Math.Bool.{Bool, true, false}
use borrow.Author.Tests.{eq-eqb, ne_eqb}
use Rattle.model.specs.declared.Fault.{Fault}
use Rattle.model.specs.declared.Table.{Table}
use Rattle.rules.specs.Found.{found}
use Rattle.model.specs.Good.{good, bad_in}
use Rattle.model.proofs.Laws.Faults.{place-good}

pub nothing : (f : Fault) → f.place ≡ 65535 → None ≡ found f
nothing f e = rw (eq-eqb f.place 65535 e)

pub something : (f : Fault) → (f.place ≡ 65535 → ⊥) → Some f ≡ found f
something f n = rw (ne_eqb f.place 65535 n)

-- nothing is found in a good table alone
pub found-good : (t : Table) → found (bad_in t) ≡ cond (good t) None (Some (bad_in t))
found-good t = ap (λ (b : Bool). cond b None (Some (bad_in t))) (place-good t)

pub found-none : (t : Table) → good t ≡ true → found (bad_in t) ≡ None
found-none t g = rw (place-good t, g)

pub found-some : (t : Table) → good t ≡ false → found (bad_in t) ≡ Some (bad_in t)
found-some t g = rw (place-good t, g)

-- what was found, the other way round
pub none-good : (t : Table) → None ≡ found (bad_in t) → good t ≡ true
none-good t h = go (good t) refl
  where
    go : (b : Bool) → good t ≡ b → good t ≡ true
    go true q = q
    go false q = absurd (let p : None ≡ Some (bad_in t) = h ∙ found-some t q in cc)

pub some-bad : (t : Table) (f : Fault) → Some f ≡ found (bad_in t) → (good t ≡ false) × (f ≡ bad_in t)
some-bad t f h = go (good t) refl
  where
    go : (b : Bool) → good t ≡ b → (good t ≡ false) × (f ≡ bad_in t)
    go true q = absurd (let p : Some f ≡ None = h ∙ found-none t q in cc)
    go false q = (q, let p : Some f ≡ Some (bad_in t) = h ∙ found-some t q in cc)
