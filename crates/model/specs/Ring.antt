-- Next (document 01, 'The steps'): the first port after o whose bit stands in a, counted upward and round the ring of d ports, o itself last.
use Rattle.std.specs.Prelude.{cond, ℕ, zero, suc, ◌+◌, ◌-◌, eqb, ltb}
use Rattle.model.specs.Mask.{stands}

-- the port after j round the ring of d ports
unfoldable pub after : ℕ → ℕ → ℕ
after d j = cond (eqb (suc j) d) 0 (suc j)

-- the first of n ports, from j upward round the ring, whose bit stands in a; the last of them where no bit stands
unfoldable pub walk : ℕ → ℕ → ℕ → ℕ → ℕ
walk zero d j a = j
walk (suc n) d j a = cond (stands a j) j (walk n d (after d j) a)

unfoldable pub next : ℕ → ℕ → ℕ → ℕ
unfolding walk
next d o a = walk d d (after d o) a

-- how many places port k lies after o, counted upward round the ring: 1 to d, d for o itself
unfoldable pub distance : ℕ → ℕ → ℕ → ℕ
distance d o k = cond (ltb o k) (k - o) (d + k - o)
