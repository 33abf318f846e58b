-- Good tables (document 01, 'The table', "A table is good when .."; request R-2): every rule, as a test and the field that it is charged to, which is the last
-- of its fields in the image.
use Rattle.std.specs.Prelude.{Bool, true, cond, not, ◌&&◌, ◌||◌, ℕ, zero, suc, ◌+◌, eqb, leb, ltb, take}
use mathlib.Core.List.{List, [], ◌∷◌, ◌++◌, foldl, foldr, map}
use Rattle.model.specs.declared.Fault.{Fault}
use Rattle.model.specs.declared.Port.{Port}
use Rattle.model.specs.declared.Copies.{Copies}
use Rattle.model.specs.declared.Shared.{Shared}
use Rattle.model.specs.declared.Table.{Table}
use Rattle.model.specs.Table.{room, most, ABORT, size_good, port_at, copies_at}
use Rattle.model.specs.Mask.{stands, within}
use Rattle.model.specs.Points.{one_of, from_to, own_place, seen_place, candidate_place, candidate_spin_place}
use Rattle.model.specs.Bytes.{sum}
use Rattle.model.specs.Layout.{head_widths, shared_widths, port_widths, copied_widths, copies_widths, port_values, copies_values, port_place, copies_place}

-- a test passes wherever another does; a test passes for every number below n
abbrev pub implies : Bool → Bool → Bool
implies a b = not a || b

unfoldable pub every_below : ℕ → (ℕ → Bool) → Bool
every_below zero f = true
every_below (suc n) f = every_below n f && f n

-- the points that are named: 0 to 6, 8 to 19, and x0 to x5
unfoldable pub named : ℕ → Bool
named n = from_to n 0 6 || from_to n 8 19 || from_to n 20 25 || from_to n 30 35 || from_to n 40 45

-- what is bad: the kind, the port, and the byte of the image where the field begins. 1.0 is the table as a whole. Field i of what all share is 1.1, of a port
-- 1.2, a working value 1.3, a copy set that all share or that is a port's 1.4
abbrev pub fault : ℕ → ℕ → ℕ → Fault
fault kind k place = record { kind = kind; port = k; place = place }

abbrev pub whole : Fault
whole = fault 0 0 0

abbrev pub shared_field : ℕ → ℕ → Fault
shared_field d i = fault 1 d (sum head_widths + sum (take i shared_widths))

abbrev pub port_field : ℕ → ℕ → Fault
port_field k i = fault 2 k (port_place k + sum (take i port_widths))

abbrev pub work_field : ℕ → ℕ → Fault
work_field k i = fault 3 k (port_place k + sum (take i port_widths))

abbrev pub copied_field : ℕ → ℕ → Fault
copied_field d i = fault 4 d (port_place d + sum (take i (copied_widths d)))

abbrev pub copies_field : ℕ → ℕ → ℕ → Fault
copies_field d k i = fault 4 k (copies_place d k + sum (take i (copies_widths d)))

-- a rule: its test, and what is bad where it fails
abbrev pub Rule : Type 0
Rule = Bool × Fault

-- room kept for ports at or above D is all 0
unfoldable pub place_empty : Table → ℕ → Bool
place_empty t k = ltb k t.shared.d || foldr ◌&&◌ true (map (λ v. eqb v 0) (port_values (port_at t k) ++ copies_values (copies_at t k)))

abbrev pub room_empty : Table → Bool
room_empty t = every_below room (place_empty t)

-- a spin number of port j, if there is such a port, is at most its made; made of port j is charged if it stands after field i of port k
unfoldable pub spin_good : ℕ → ℕ → ℕ → ℕ → Bool
spin_good d j n made = implies (ltb j d) (leb n made)

abbrev pub spin_field : ℕ → ℕ → ℕ → Fault
spin_field k j i = cond (ltb k j) (port_field j 4) (work_field k i)

-- the rules for the table as a whole, where `empty` says that room above D is, and for what all share, with made of the word's owner
unfoldable pub shared_rules : Bool → Shared → ℕ → List Rule
shared_rules empty s ownermade =
    (size_good s.d, whole)
    ∷ (empty, whole)
    ∷ (within s.d s.active, shared_field s.d 0)
    ∷ (leb s.word.taken 1, shared_field s.d 1)
    ∷ (ltb s.word.owner s.d, shared_field s.d 2)
    ∷ (spin_good s.d s.word.owner s.word.spin ownermade, port_field s.word.owner 4)
    ∷ (within s.d s.activecopies, copied_field s.d 0)
    ∷ (within s.d s.wordcopies, copied_field s.d 1)
    ∷ []

-- the rules for the fields of port k: codes, flag and latest value are among those named; at 0 the flag is 0; at 6 the port's bit in ACTIVE is clear, at 15 it
-- is set; made 0 goes with latest value 0; GO is at most made
unfoldable pub field_rules : ℕ → ℕ → Port → List Rule
field_rules active k p =
    let n = p.point in
    (named n, port_field k 0)
    ∷ (implies (eqb n 6) (not (stands active k)), port_field k 0)
    ∷ (implies (eqb n 15) (stands active k), port_field k 0)
    ∷ (leb p.status ABORT, port_field k 1)
    ∷ (leb p.flag 1, port_field k 2)
    ∷ (implies (eqb n 0) (eqb p.flag 0), port_field k 2)
    ∷ (leb p.value 1, port_field k 3)
    ∷ (leb p.made most, port_field k 4)
    ∷ (implies (eqb p.made 0) (eqb p.value 0), port_field k 4)
    ∷ (leb p.go p.made, port_field k 5)
    ∷ []

-- for its working values, with made of its seen owner and of its candidate: owners and candidates are below D, a spin number is at most its port's made, at 25,
-- 35 or 45 the seen spin is above 0, and every value is 0 outside its points
unfoldable pub work_rules : ℕ → ℕ → Port → ℕ → ℕ → List Rule
work_rules d k p seenmade candidatemade =
    let n = p.point in
    let w = p.work in
    (leb w.own p.made, work_field k 6)
    ∷ (implies (not (own_place n)) (eqb w.own 0), work_field k 6)
    ∷ (ltb w.seenowner d, work_field k 7)
    ∷ (implies (not (seen_place n)) (eqb w.seenowner 0), work_field k 7)
    ∷ (implies (not (seen_place n)) (eqb w.seenspin 0), work_field k 8)
    ∷ (implies (one_of n (25 ∷ 35 ∷ 45 ∷ [])) (ltb 0 w.seenspin), work_field k 8)
    ∷ (spin_good d w.seenowner w.seenspin seenmade, spin_field k w.seenowner 8)
    ∷ (ltb w.candidate d, work_field k 9)
    ∷ (implies (not (candidate_place n)) (eqb w.candidate 0), work_field k 9)
    ∷ (implies (not (candidate_spin_place n)) (eqb w.candidatespin 0), work_field k 10)
    ∷ (spin_good d w.candidate w.candidatespin candidatemade, spin_field k w.candidate 10)
    ∷ []

-- for its copy sets: no bit at D or above, and made 0 goes with an empty copy set for the spin
unfoldable pub copy_rules : ℕ → ℕ → ℕ → Copies → List Rule
copy_rules d k made c =
    (within d c.status, copies_field d k 0)
    ∷ (within d c.go, copies_field d k 1)
    ∷ (within d c.spin, copies_field d k 2)
    ∷ (implies (eqb made 0) (eqb c.spin 0), copies_field d k 2)
    ∷ []

abbrev pub port_rules : Shared → ℕ → Port → Copies → ℕ → ℕ → List Rule
port_rules s k p c seenmade candidatemade =
    field_rules s.active k p ++ (work_rules s.d k p seenmade candidatemade ++ copy_rules s.d k p.made c)

-- the rules for the first n ports of a table; all its rules
unfoldable pub ports_rules : Table → ℕ → List Rule
ports_rules t zero = []
ports_rules t (suc n) =
    let p = port_at t n in
    ports_rules t n
    ++ port_rules t.shared n p (copies_at t n) (port_at t p.work.seenowner).made (port_at t p.work.candidate).made

unfoldable pub rules : Table → List Rule
rules t = shared_rules (room_empty t) t.shared (port_at t t.shared.word.owner).made ++ ports_rules t t.shared.d

-- every test passes
unfoldable pub passed : List Rule → Bool
passed [] = true
passed (r ∷ rs) = r.0 && passed rs

unfoldable pub good : Table → Bool
good t = passed (rules t)

-- of what is bad, the lower place; none so far is past every image
abbrev pub nowhere : Fault
nowhere = fault 0 0 65535

unfoldable pub lower : Fault → Rule → Fault
lower f r = cond (r.0 || leb f.place r.1.place) f r.1

-- what is bad in a bad table
unfoldable pub bad_in : Table → Fault
bad_in t = foldl lower nowhere (rules t)
