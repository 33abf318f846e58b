-- Where there is room for a line.
use Rattle.std.specs.Prelude.{◌≡◌, refl, Bool, true, false, List, ℕ, ◌+◌, ◌-◌, ◌*◌, ◌≤◌, ◌<◌, leb, length}
use Rattle.std.proofs.Common.{sym, add-zero, arith, leb-true, leb-false, le-leb}
use Rattle.std.proofs.lemmas.Bool.{lt-leb}
use Rattle.std.proofs.lemmas.List.Edits.{sets}
use Rattle.text.specs.Text.{longest}
use Rattle.text.specs.Parts.{fitting}
use Rattle.text.specs.Laws.Put.{Put, limit}

pub too_short : (room at : ℕ) → room < longest → false ≡ leb (at + longest) room
too_short room at h = sym (lt-leb (at + longest) room (omega (arith, h)))

-- the room from a place on, and the place's distance from the end
pub room-from : (room at : ℕ) → longest ≤ room → leb at (room - longest) ≡ leb (at + longest) room
room-from room at h = go (leb (at + longest) room) refl
  where
    go : (b : Bool) → leb (at + longest) room ≡ b → leb at (room - longest) ≡ b
    go true e = le-leb at (room - longest) (omega (arith, h, leb-true (at + longest) room e))
    go false e = lt-leb at (room - longest) (omega (arith, h, leb-false (at + longest) room e))

pub below : (room at : ℕ) → leb (at + longest) room ≡ true → room * 1 < limit → at + longest < limit
below room at e h = omega (arith, h, leb-true (at + longest) room e)

-- a line is put where there is room
pub there-is-room : {out exit line : List ℕ} {at r : ℕ} → leb (at + longest) (length out) ≡ true → Put out at line longest r exit
    → (r ≡ at + length (fitting (length out) at line)) × ((exit ≡ sets out at (fitting (length out) at line)) × (r ≤ at + longest))
there-is-room e p = rw e (p.place, (p.bytes, omega (arith, p.place, p.short)))

-- and nothing where there is none
pub no_room : (out line : List ℕ) (at : ℕ) → leb (at + longest) (length out) ≡ false
    → (at ≡ at + length (fitting (length out) at line)) × ((out ≡ sets out at (fitting (length out) at line)) × (at ≤ at + longest))
no_room out line at e = rw e (sym (add-zero at), (refl, omega arith))

-- who knows that there is room has the whole line
pub whole-line : {out exit line : List ℕ} {at r : ℕ} → at + longest ≤ length out
    → (r ≡ at + length (fitting (length out) at line)) × ((exit ≡ sets out at (fitting (length out) at line)) × (r ≤ at + longest))
    → Put out at line longest r exit
whole-line {out} {exit} {line} {at} {r} h p =
    let e = le-leb (at + longest) (length out) h in
    let q = rw e at p in
    record { place = q.0; short = omega (arith, q.0, q.1.1); bytes = q.1.0 }
