-- Where single fields of an image stand: a copy set, a port's latest value, the lock word.
use Rattle.std.specs.Prelude.{ℕ, ◌+◌, ◌*◌}
use Rattle.model.specs.declared.Cell.{Cell}
use Rattle.model.specs.declared.Cell.TheVariants.{Nothing, Status, Go, Spin, Active, Lock, CandidateGo, SeenSpin}
use Rattle.model.specs.Bytes.{sum}
use Rattle.model.specs.Layout.{set_width, head_widths, port_place, copies_place, size}

-- the copy set of a word that belongs to port j, in the image of d ports; where there is no word, past the image
abbrev pub set_place : Cell → ℕ → ℕ → ℕ
set_place Nothing d j = size d
set_place Status d j = copies_place d j
set_place Go d j = copies_place d j + set_width d
set_place Spin d j = copies_place d j + 2 * set_width d
set_place Active d j = port_place d
set_place Lock d j = port_place d + set_width d
set_place CandidateGo d j = copies_place d j + set_width d
set_place SeenSpin d j = copies_place d j + 2 * set_width d

unfoldable pub value_place : ℕ → ℕ
value_place k = port_place k + 3

unfoldable pub word_place : ℕ
word_place = sum head_widths + 8
