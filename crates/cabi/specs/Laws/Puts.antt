-- What the code leaves in the bytes of an image, part by part.
use Rattle.std.specs.Prelude.{Bool, cond, List, [], ◌∷◌, ℕ}
use Rattle.model.specs.declared.Move.{Move}
use Rattle.model.specs.declared.Cell.TheVariants.{Spin}
use Rattle.model.specs.declared.Kind.{Kind}
use Rattle.model.specs.declared.Kind.TheVariants.{Read, Write, Add, Swap}
use Rattle.model.specs.declared.Kind.TheVariants as Kinds
use Rattle.model.specs.Points.{settled}
use Rattle.model.specs.Bytes.{sum}
use Rattle.model.specs.Layout.{port_widths, set_width, head_widths, port_values, port_place}
use Rattle.layout.specs.Places.{set_place, value_place, word_place}
use Rattle.records.specs.Records.{put_at}

-- a copy set at a place in the image of d ports
abbrev pub set_put : ℕ → ℕ → ℕ → List ℕ → List ℕ
set_put d at n bs = put_at (set_width d ∷ []) (n ∷ []) at bs

-- ACTIVE after an addition, the word after a swap
abbrev pub front_put : Kind → Move → List ℕ → List ℕ
front_put Kinds.Nothing m bs = bs
front_put Read m bs = bs
front_put Write m bs = bs
front_put Add m bs = put_at (8 ∷ []) (m.active ∷ []) (sum head_widths) bs
front_put Swap m bs = put_at (1 ∷ 1 ∷ 2 ∷ []) (m.word.taken ∷ m.word.owner ∷ m.word.spin ∷ []) word_place bs

-- the copy sets after a touch: none of port j's spin where that is new, and n at the place of the word's
unfoldable pub sets_put : ℕ → ℕ → ℕ → Bool → ℕ → List ℕ → List ℕ
sets_put d j at new n bs = set_put d at n (cond new (set_put d (set_place Spin d j) 0 bs) bs)

-- what a move leaves: port k's record, a mark at port j, ACTIVE or the word
unfoldable pub move_put : ℕ → ℕ → Kind → Move → Bool → List ℕ → List ℕ
move_put k j x m sets bs =
    let own = put_at port_widths (port_values (settled m.own)) (port_place k) bs in
    front_put x m (cond sets (put_at (1 ∷ []) (1 ∷ []) (value_place j) own) own)
