use Rattle.std.proofs.Common.{ℕ, sym}
use Rattle.std.proofs.lemmas.List.{length-replicate}
use Rattle.vectors.proofs.file_room.Goals as goal

-- by its lemma: computed, so many zeros are too many
pub returns : goal.returns
returns c = sym (length-replicate {0} {A = ℕ} 600000 0)
