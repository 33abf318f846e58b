-- The layout of an image (document 01, 'The image'): the fields of each record with their widths, and the contents. Every place, start and length
-- follows from the widths.
use Rattle.std.specs.Prelude.{Bool, true, cond, ◌&&◌, ℕ, ◌+◌, ◌*◌, eqb, leb, length, get_or}
use mathlib.Core.List.{List, [], ◌∷◌, foldr, zip_with}
use Rattle.model.specs.declared.Port.{Port}
use Rattle.model.specs.declared.Copies.{Copies}
use Rattle.model.specs.declared.Shared.{Shared}
use Rattle.model.specs.Table.{word, work, port, copies, shared, size_good}
use Rattle.model.specs.Bytes.{sum, unpack}

-- shared: ACTIVE, taken, owner, spin
unfoldable pub shared_widths : List ℕ
shared_widths = 8 ∷ 1 ∷ 1 ∷ 2 ∷ []

unfoldable pub shared_values : Shared → List ℕ
shared_values s = s.active ∷ s.word.taken ∷ s.word.owner ∷ s.word.spin ∷ []

-- a port: point, STATUS, flag, latest value, made, GO, own spin, seen owner, seen spin, candidate, candidate spin
unfoldable pub port_widths : List ℕ
port_widths = 1 ∷ 1 ∷ 1 ∷ 1 ∷ 2 ∷ 2 ∷ 2 ∷ 1 ∷ 2 ∷ 1 ∷ 2 ∷ []

unfoldable pub port_values : Port → List ℕ
port_values p = p.point ∷ p.status ∷ p.flag ∷ p.value ∷ p.made ∷ p.go
    ∷ p.work.own ∷ p.work.seenowner ∷ p.work.seenspin ∷ p.work.candidate ∷ p.work.candidatespin ∷ []

-- a set of ports takes two bytes where there are at most 16, else eight
unfoldable pub set_width : ℕ → ℕ
set_width d = cond (leb d 16) 2 8

-- the copy sets that all share: of ACTIVE, of the word
unfoldable pub copied_widths : ℕ → List ℕ
copied_widths d = set_width d ∷ set_width d ∷ []

unfoldable pub copied_values : Shared → List ℕ
copied_values s = s.activecopies ∷ s.wordcopies ∷ []

-- the copy sets of a port: of STATUS, GO, latest spin
unfoldable pub copies_widths : ℕ → List ℕ
copies_widths d = set_width d ∷ set_width d ∷ set_width d ∷ []

unfoldable pub copies_values : Copies → List ℕ
copies_values c = c.status ∷ c.go ∷ c.spin ∷ []

-- the same fields, from their values
unfoldable pub shared_of : ℕ → List ℕ → List ℕ → Shared
shared_of d vs cs = shared (get_or vs 0 0) (get_or cs 0 0) (get_or cs 1 0) d (word (get_or vs 1 0) (get_or vs 2 0) (get_or vs 3 0))

unfoldable pub port_of : List ℕ → Port
port_of vs = port (get_or vs 0 0) (get_or vs 1 0) (get_or vs 2 0) (get_or vs 3 0) (get_or vs 4 0) (get_or vs 5 0)
    (work (get_or vs 6 0) (get_or vs 7 0) (get_or vs 8 0) (get_or vs 9 0) (get_or vs 10 0))

unfoldable pub copies_of : List ℕ → Copies
copies_of vs = copies (get_or vs 0 0) (get_or vs 1 0) (get_or vs 2 0)

-- byte 0, the version
unfoldable pub version : ℕ → ℕ
version d = cond (leb d 16) 1 2

-- the head: version, D, and the contents: start and length of each of the three bodies
unfoldable pub head_widths : List ℕ
head_widths = 1 ∷ 1 ∷ 2 ∷ 2 ∷ 2 ∷ 2 ∷ 2 ∷ 2 ∷ []

-- where the records of the image of d ports stand, without gaps: shared straight after the head; then port k; after port d the copy sets that all share; then
-- those of port k; and the length of the image
unfoldable pub port_place : ℕ → ℕ
port_place k = sum head_widths + sum shared_widths + k * sum port_widths

unfoldable pub copies_place : ℕ → ℕ → ℕ
copies_place d k = port_place d + sum (copied_widths d) + k * sum (copies_widths d)

unfoldable pub size : ℕ → ℕ
size d = copies_place d d

-- the bodies: shared, ports, copies
unfoldable pub head_values : ℕ → List ℕ
head_values d = version d ∷ d ∷ sum head_widths ∷ sum shared_widths ∷ port_place 0 ∷ (d * sum port_widths)
    ∷ port_place d ∷ (sum (copied_widths d) + d * sum (copies_widths d)) ∷ []

-- D as the bytes have it; D, length, and every number of the head are right
unfoldable pub d_in : List ℕ → ℕ
d_in bs = get_or (unpack head_widths bs) 1 0

unfoldable pub is_image : List ℕ → Bool
is_image bs = size_good (d_in bs) && eqb (length bs) (size (d_in bs))
    && foldr ◌&&◌ true (zip_with eqb (unpack head_widths bs) (head_values (d_in bs)))
