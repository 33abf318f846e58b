-- A table from its parts.
use Rattle.std.specs.Prelude.{◌≡◌, List, ◌++◌, ℕ, ◌+◌, ◌-◌, ◌≤◌, ◌<◌, length, get_or, take, drop, replicate}
use Rattle.std.proofs.Common.{sym, ap, ◌∙◌, arith, length-drop, take-append-drop, get_or-drop, ext_get_or}
use Rattle.std.proofs.lemmas.List.{length-replicate, get_or-replicate}
use Rattle.model.specs.declared.Port.{Port}
use Rattle.model.specs.declared.Copies.{Copies}
use Rattle.model.specs.declared.Shared.{Shared}
use Rattle.model.specs.Table.{room, table}

-- tables are equal where their parts are
pub tables : (ps qs : List Port) (cs es : List Copies) (a b : Shared) → ps ≡ qs → cs ≡ es → a ≡ b → table ps cs a ≡ table qs es b
tables ps qs cs es a b p q r = rw (p, q, r)

-- a list as long as the room whose elements from d on are z
pub refill : {A : Type 0} (z : A) (l : List A) (d : ℕ) → length l ≡ room → ((k : ℕ) → d ≤ k → k < room → get_or l k z ≡ z)
    → take d l ++ replicate (room - d) z ≡ l
refill z l d e h =
    let n : length (drop d l) ≡ room - d = length-drop d l ∙ ap (λ (m : ℕ). m - d) e in
    let r : drop d l ≡ replicate (room - d) z =
    ext_get_or z (drop d l) (replicate (room - d) z) (n ∙ sym (length-replicate (room - d) z))
    (λ i q.
    get_or-drop d l i z
    ∙ h (d + i) (omega arith) (omega (arith, q, n))
    ∙ sym (get_or-replicate (room - d) i z z (omega (arith, q, n)))) in
    rw (← r) (take-append-drop d l)
