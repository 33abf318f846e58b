-- The rules of a good table by record, as the code tests them: what all share, the fields, working values and copy sets of a port, and room that is empty.
use Rattle.std.specs.Prelude.{Bool, cond, not, ◌&&◌, [], ◌∷◌, ℕ, eqb, leb, ltb}
use Rattle.model.specs.declared.Work.{Work}
use Rattle.model.specs.declared.Port.{Port}
use Rattle.model.specs.declared.Copies.{Copies}
use Rattle.model.specs.declared.Shared.{Shared}
use Rattle.model.specs.declared.Table.{Table}
use Rattle.model.specs.Table.{room, most, ABORT, size_good, port_at, copies_at}
use Rattle.model.specs.Mask.{stands, within}
use Rattle.model.specs.Points.{one_of, own_place, seen_place, candidate_place, candidate_spin_place}
use Rattle.model.specs.Good.{implies, every_below, named}

-- what all share, with made of the word's owner
unfoldable pub shared_good : Shared → ℕ → Bool
shared_good s ownermade =
    leb s.word.taken 1
    && within s.d s.active && within s.d s.activecopies && within s.d s.wordcopies
    && ltb s.word.owner s.d && leb s.word.spin ownermade

-- the fields of port k: codes, flag and latest value are among those named; GO is at most made; at 0 the flag is 0; at 6 the port's bit in
-- ACTIVE is clear, at 15 it is set; made 0 goes with latest value 0
unfoldable pub fields_good : ℕ → ℕ → Port → Bool
fields_good active k p =
    named p.point && leb p.status ABORT && leb p.flag 1 && leb p.value 1
    && leb p.made most && leb p.go p.made
    && implies (eqb p.point 0) (eqb p.flag 0)
    && implies (eqb p.point 6) (not (stands active k)) && implies (eqb p.point 15) (stands active k)
    && implies (eqb p.made 0) (eqb p.value 0)

-- the working values of a port with its point and made, and made of its seen owner and of its candidate: owners and candidates are below D, a spin
-- number is at most its port's made, at 25, 35 or 45 the seen spin is above 0, and every value is 0 outside its points
unfoldable pub work_good : ℕ → ℕ → ℕ → ℕ → ℕ → Work → Bool
unfolding one_of
work_good d point made seenmade candidatemade w =
    ltb w.seenowner d && ltb w.candidate d
    && leb w.own made && leb w.seenspin seenmade && leb w.candidatespin candidatemade
    && implies (one_of point (25 ∷ 35 ∷ 45 ∷ [])) (ltb 0 w.seenspin)
    && implies (not (own_place point)) (eqb w.own 0)
    && implies (not (seen_place point)) (eqb w.seenowner 0) && implies (not (seen_place point)) (eqb w.seenspin 0)
    && implies (not (candidate_place point)) (eqb w.candidate 0)
    && implies (not (candidate_spin_place point)) (eqb w.candidatespin 0)

-- the copy sets of a port that has made so many spins: no bit at D or above, and made 0 goes with an empty copy set for the spin
unfoldable pub copies_good : ℕ → ℕ → Copies → Bool
copies_good d made c =
    within d c.status && within d c.go && within d c.spin && implies (eqb made 0) (eqb c.spin 0)

-- room kept for ports at or above D is all 0
unfoldable pub port_empty : Port → Copies → Bool
port_empty p c =
    eqb p.point 0 && eqb p.status 0 && eqb p.flag 0 && eqb p.value 0 && eqb p.made 0 && eqb p.go 0
    && eqb p.work.own 0 && eqb p.work.seenowner 0 && eqb p.work.seenspin 0
    && eqb p.work.candidate 0 && eqb p.work.candidatespin 0
    && eqb c.status 0 && eqb c.go 0 && eqb c.spin 0

-- the rules for a port that there is; those for place k, a port or room kept for one; all of them in a table
abbrev pub port_good : Table → ℕ → Bool
port_good t k =
    fields_good t.shared.active k (port_at t k)
    && work_good t.shared.d (port_at t k).point (port_at t k).made
    (port_at t (port_at t k).work.seenowner).made (port_at t (port_at t k).work.candidate).made (port_at t k).work
    && copies_good t.shared.d (port_at t k).made (copies_at t k)

unfoldable pub place_good : Table → ℕ → Bool
place_good t k = cond (ltb k t.shared.d) (port_good t k) (port_empty (port_at t k) (copies_at t k))

unfoldable pub all_good : Table → Bool
all_good t =
    size_good t.shared.d && shared_good t.shared (port_at t t.shared.word.owner).made && every_below room (place_good t)
