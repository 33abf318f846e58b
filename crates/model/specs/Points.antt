-- The points (document 01, 'The table' and 'The steps'): which there are, and where each working value has its place.
use Rattle.std.specs.Prelude.{Bool, false, cond, ◌&&◌, ◌||◌, List, [], ◌∷◌, ◌++◌, ℕ, eqb, leb, get_or}
use Rattle.model.specs.declared.Port.{Port}
use Rattle.model.specs.Table.{work, port}

-- the tens of a promotion's points: x is 2, 3 or 4
pub data Tens : Type 0 where
  two three four : Tens

-- a constructor for each point, and one for every number that is no point; x0 to x5 are the promotion
pub data Point : Type 0 where
  none p0 p1 p2 p3 p4 p5 p6 p8 p9 p10 p11 p12 p13 p14 p15 p16 p17 p18 p19 : Point
  x0 x1 x2 x3 x4 x5 : Tens → Point

unfoldable pub tens : Tens → ℕ
tens two = 20
tens three = 30
tens four = 40

-- where a promotion goes back to
unfoldable pub back : Tens → ℕ
back two = 8
back three = 17
back four = 18

-- the points of one promotion, and the numbers up to the next, which are no points
abbrev pub promotion : Tens → List Point
promotion x = x0 x ∷ x1 x ∷ x2 x ∷ x3 x ∷ x4 x ∷ x5 x ∷ none ∷ none ∷ none ∷ none ∷ []

-- the point of each number; there is no point 7
abbrev pub points : List Point
points =
    (p0 ∷ p1 ∷ p2 ∷ p3 ∷ p4 ∷ p5 ∷ p6 ∷ none ∷ p8 ∷ p9 ∷ p10 ∷ p11 ∷ p12 ∷ p13 ∷ p14 ∷ p15 ∷ p16 ∷ p17 ∷ p18 ∷ p19 ∷ [])
    ++ promotion two ++ promotion three ++ promotion four

abbrev pub point_of : ℕ → Point
point_of n = get_or points n none

-- n is a number of the list; n is from a to b
unfoldable pub one_of : ℕ → List ℕ → Bool
one_of n [] = false
one_of n (m ∷ ms) = eqb n m || one_of n ms

abbrev pub from_to : ℕ → ℕ → ℕ → Bool
from_to n a b = leb a n && leb n b

-- where each working value has its place
unfoldable pub own_place : ℕ → Bool
unfolding one_of
own_place n = one_of n (5 ∷ 6 ∷ 8 ∷ 9 ∷ 10 ∷ 17 ∷ []) || from_to n 20 25 || from_to n 30 35

unfoldable pub seen_place : ℕ → Bool
unfolding one_of
seen_place n = one_of n (21 ∷ 22 ∷ 23 ∷ 25 ∷ 31 ∷ 32 ∷ 33 ∷ 35 ∷ 41 ∷ 42 ∷ 43 ∷ 45 ∷ [])

unfoldable pub candidate_place : ℕ → Bool
unfolding one_of
candidate_place n = one_of n (22 ∷ 23 ∷ 32 ∷ 33 ∷ 42 ∷ 43 ∷ [])

unfoldable pub candidate_spin_place : ℕ → Bool
unfolding one_of
candidate_spin_place n = one_of n (23 ∷ 33 ∷ 43 ∷ [])

-- a port whose working values are 0 wherever they have no place at its point
unfoldable pub settled : Port → Port
settled p =
    port p.point p.status p.flag p.value p.made p.go
    (work (cond (own_place p.point) p.work.own 0)
    (cond (seen_place p.point) p.work.seenowner 0) (cond (seen_place p.point) p.work.seenspin 0)
    (cond (candidate_place p.point) p.work.candidate 0) (cond (candidate_spin_place p.point) p.work.candidatespin 0))
