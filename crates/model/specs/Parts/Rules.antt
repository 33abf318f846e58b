-- The rules for a port as the code tests them: those of its own records, and those for what it has seen, which look at made of two other ports.
use Rattle.std.specs.Prelude.{Bool, cond, not, ◌&&◌, [], ◌∷◌, ℕ, eqb, leb, ltb}
use Rattle.std.specs.Int.Bits.{bit_or}
use Rattle.model.specs.declared.Work.{Work}
use Rattle.model.specs.declared.Port.{Port}
use Rattle.model.specs.declared.Copies.{Copies}
use Rattle.model.specs.declared.Shared.{Shared}
use Rattle.model.specs.Table.{room, size_good}
use Rattle.model.specs.Points.{one_of, own_place, seen_place, candidate_place, candidate_spin_place}
use Rattle.model.specs.Good.{implies}
use Rattle.model.specs.Parts.Good.{fields_good, copies_good}

-- its fields, its copy sets and its own spin
unfoldable pub own_tests : Shared → ℕ → Port → Copies → Bool
own_tests s k p c =
    fields_good s.active k p && copies_good s.d p.made c
    && leb p.work.own p.made && implies (not (own_place p.point)) (eqb p.work.own 0)

-- at a point without a place for what is seen, all of it is 0
unfoldable pub unseen_tests : ℕ → Work → Bool
unseen_tests d w = ltb 0 d && eqb w.seenowner 0 && eqb w.candidate 0 && eqb w.seenspin 0 && eqb w.candidatespin 0

-- at the others, with made of the seen owner and of the candidate
unfoldable pub seen_tests : ℕ → ℕ → ℕ → ℕ → Work → Bool
unfolding one_of
seen_tests d point seenmade candidatemade w =
    ltb w.seenowner d && ltb w.candidate d && leb w.seenspin seenmade && leb w.candidatespin candidatemade
    && implies (one_of point (25 ∷ 35 ∷ 45 ∷ [])) (ltb 0 w.seenspin)
    && implies (not (candidate_place point)) (eqb w.candidate 0) && implies (not (candidate_spin_place point)) (eqb w.candidatespin 0)

-- all rules for port k
unfoldable pub port_tests : Shared → ℕ → Port → Copies → ℕ → ℕ → Bool
port_tests s k p c seenmade candidatemade =
    own_tests s k p c
    && cond (seen_place p.point) (seen_tests s.d p.point seenmade candidatemade p.work) (unseen_tests s.d p.work)

-- all that is kept for a port, joined bit by bit: 0 where each of it is
unfoldable pub joined_port : Port → Copies → ℕ
joined_port p c =
    bit_or
    (bit_or (bit_or (bit_or c.status c.go) c.spin)
    (bit_or (bit_or (bit_or (bit_or (bit_or p.point p.status) p.flag) p.value) p.work.seenowner) p.work.candidate))
    (bit_or (bit_or (bit_or (bit_or p.made p.go) p.work.own) p.work.seenspin) p.work.candidatespin)

-- how many ports are tested: D, or none where it is out of range
unfoldable pub ports_of : ℕ → ℕ
ports_of d = cond (size_good d) d 0

-- the place of port k in a table; place 0 where a table has no room for it
unfoldable pub slot_of : ℕ → ℕ
slot_of k = cond (ltb k room) k 0
