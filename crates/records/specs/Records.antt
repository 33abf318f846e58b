-- Records as the functions of this crate read and write them, where the bytes may end before one: who reads images needs none of it.
use Rattle.std.specs.Prelude.{Option, Some, None, cond, List, [], ℕ, ◌+◌, eqb, leb, length, drop, replicate}
use Rattle.std.proofs.lemmas.List.Edits.{sets}
use Rattle.model.specs.Bytes.{sum, pack, unpack}
use Rattle.model.specs.Layout.{d_in, is_image}

-- the values of the record at a place; none where the bytes end before it
unfoldable pub there : List ℕ → ℕ → List ℕ → List ℕ
there ws at bs = cond (leb (at + sum ws) (length bs)) (unpack ws (drop at bs)) []

-- the bytes with a record put at a place; as they were where they end before it
unfoldable pub put_at : List ℕ → List ℕ → ℕ → List ℕ → List ℕ
put_at ws vs at bs = cond (leb (at + sum ws) (length bs)) (sets bs at (pack ws vs)) bs

-- n values, 0 where there are none
unfoldable pub filled : ℕ → List ℕ → List ℕ
filled n vs = sets (replicate n 0) 0 vs

-- D of an image, and 0 of bytes that are none
unfoldable pub ports_in : List ℕ → ℕ
ports_in bs = cond (is_image bs) (d_in bs) 0

-- the same as an option: none where it is 0
unfoldable pub some_ports : ℕ → Option ℕ
some_ports d = cond (eqb d 0) None (Some d)
