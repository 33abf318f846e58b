-- What is proved of the layout. Two results that meet the promise of a function of this crate are equal: each promise gives one value at every argument.
use Rattle.std.specs.Prelude.{◌≡◌, List, [], ◌∷◌, ℕ, ◌+◌, ◌*◌, ◌≤◌, ◌<◌}
use Rattle.std.proofs.Common.{mul_comm, le-leb}
use Rattle.std.proofs.lemmas.Bool.{lt-leb}
use Rattle.model.specs.declared.Cell.{Cell}
use Rattle.model.specs.declared.Port.{Port}
use Rattle.model.specs.declared.Copies.{Copies}
use Rattle.model.specs.declared.Shared.{Shared}
use Rattle.model.proofs.Statements.{one}
use Rattle.model.specs.Bytes.{sum, pack, unpack}
use Rattle.layout.specs.Places.{set_place}
use Rattle.model.specs.Layout.{head_widths, shared_widths, port_widths, set_width, copied_widths, copies_widths, version, shared_values, port_values, copied_values, copies_values, shared_of, port_of, copies_of, head_values, port_place, copies_place, size}

pub shared-values-one : (x : Shared) (r s : List ℕ) → r ≡ shared_values x → s ≡ shared_values x → r ≡ s
shared-values-one x r s = one

pub port-values-one : (p : Port) (r s : List ℕ) → r ≡ port_values p → s ≡ port_values p → r ≡ s
port-values-one p r s = one

pub copied-values-one : (x : Shared) (r s : List ℕ) → r ≡ copied_values x → s ≡ copied_values x → r ≡ s
copied-values-one x r s = one

pub copies-values-one : (c : Copies) (r s : List ℕ) → r ≡ copies_values c → s ≡ copies_values c → r ≡ s
copies-values-one c r s = one

pub shared-of-one : (d : ℕ) (v c : List ℕ) (r s : Shared) → r ≡ shared_of d (unpack shared_widths (pack shared_widths v)) c
    → s ≡ shared_of d (unpack shared_widths (pack shared_widths v)) c → r ≡ s
shared-of-one d v c r s = one

pub port-of-one : (v : List ℕ) (r s : Port) → r ≡ port_of (unpack port_widths (pack port_widths v)) → s ≡ port_of (unpack port_widths (pack port_widths v)) → r ≡ s
port-of-one v r s = one

pub copies-of-one : (v : List ℕ) (r s : Copies) → r ≡ copies_of v → s ≡ copies_of v → r ≡ s
copies-of-one v r s = one

pub head-values-one : (d : ℕ) (r s : List ℕ) → r ≡ head_values d → s ≡ head_values d → r ≡ s
head-values-one d r s = one

pub port-place-one : (k r s : ℕ) → r ≡ port_place k → s ≡ port_place k → r ≡ s
port-place-one k r s = one

pub copies-place-one : (d k r s : ℕ) → r ≡ copies_place d k → s ≡ copies_place d k → r ≡ s
copies-place-one d k r s = one

pub set-place-one : (c : Cell) (d j r s : ℕ) → r ≡ set_place c d j → s ≡ set_place c d j → r ≡ s
set-place-one c d j r s = one

pub size-one : (d r s : ℕ) → r ≡ size d → s ≡ size d → r ≡ s
size-one d r s = one

-- The head as numbers (document 01, 'The image'): version and D, then start and length of each body: shared from byte 14 (12 bytes), ports from byte 26 (16 bytes
-- each), copies straight after the last port. To D = 16 a copy set takes two bytes: 2 + 2, then 6 for each port
pub narrow-head : (d : ℕ) → d ≤ 16 → head_values d ≡ 1 ∷ d ∷ 14 ∷ 12 ∷ 26 ∷ 16 * d ∷ (26 + 16 * d) ∷ (4 + 6 * d) ∷ []
unfolding sum head_widths shared_widths port_widths set_width copied_widths copies_widths port_place version head_values
narrow-head d h = rw (le-leb d 16 h, mul_comm d 16, mul_comm d 6)

-- R-1: above 16 the version is 2, and a copy set takes eight bytes: 8 + 8, then 24 for each port
pub wide-head : (d : ℕ) → 16 < d → head_values d ≡ 2 ∷ d ∷ 14 ∷ 12 ∷ 26 ∷ 16 * d ∷ (26 + 16 * d) ∷ (16 + 24 * d) ∷ []
unfolding sum head_widths shared_widths port_widths set_width copied_widths copies_widths port_place version head_values
wide-head d h = rw (lt-leb d 16 h, mul_comm d 16, mul_comm d 24)
