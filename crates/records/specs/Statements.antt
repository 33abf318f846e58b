-- Two results that meet the promise of a function of this crate are equal, and so are two contents of the buffer: each promise gives one value at every argument.
use Rattle.std.specs.Prelude.{◌≡◌, List, [], ◌∷◌, ℕ, Option, get_or}
use Rattle.model.specs.declared.Word.{Word}
use Rattle.model.specs.declared.Port.{Port}
use Rattle.model.specs.declared.Copies.{Copies}
use Rattle.model.specs.declared.Shared.{Shared}
use Rattle.model.proofs.Statements.{one}
use Rattle.model.specs.Bytes.{sum}
use Rattle.model.specs.Layout.{shared_widths, port_widths, set_width, copied_widths, copies_widths, head_widths, shared_of, port_of, copies_of, port_place, copies_place}
use Rattle.records.specs.Records.{there, put_at, ports_in, some_ports}

pub ports-in-one : (bs : List ℕ) (r s : ℕ) → r ≡ ports_in bs → s ≡ ports_in bs → r ≡ s
ports-in-one bs r s = one

pub some-ports-one : (bs : List ℕ) (r s : Option ℕ) → r ≡ some_ports (ports_in bs) → s ≡ some_ports (ports_in bs) → r ≡ s
some-ports-one bs r s = one

pub d-in-one : (bs : List ℕ) (r s : ℕ) → r ≡ get_or bs 1 0 → s ≡ get_or bs 1 0 → r ≡ s
d-in-one bs r s = one

pub port-in-one : (bs : List ℕ) (k : ℕ) (r s : Port) → r ≡ port_of (there port_widths (port_place k) bs) → s ≡ port_of (there port_widths (port_place k) bs) → r ≡ s
port-in-one bs k r s = one

pub copies-in-one : (bs : List ℕ) (d k : ℕ) (r s : Copies) → r ≡ copies_of (there (copies_widths d) (copies_place d k) bs)
    → s ≡ copies_of (there (copies_widths d) (copies_place d k) bs) → r ≡ s
copies-in-one bs d k r s = one

pub shared-in-one : (bs : List ℕ) (d : ℕ) (r s : Shared) → r ≡ shared_of d (there shared_widths (sum head_widths) bs) (there (copied_widths d) (port_place d) bs)
    → s ≡ shared_of d (there shared_widths (sum head_widths) bs) (there (copied_widths d) (port_place d) bs) → r ≡ s
shared-in-one bs d r s = one

pub active-in-one : (bs : List ℕ) (r s : ℕ) → r ≡ get_or (there shared_widths (sum head_widths) bs) 0 0 → s ≡ get_or (there shared_widths (sum head_widths) bs) 0 0 → r ≡ s
active-in-one bs r s = one

pub word-in-one : (bs : List ℕ) (r s : Word) → r ≡ (shared_of 0 (there shared_widths (sum head_widths) bs) []).word
    → s ≡ (shared_of 0 (there shared_widths (sum head_widths) bs) []).word → r ≡ s
word-in-one bs r s = one

pub set-in-one : (bs : List ℕ) (d at r s : ℕ) → r ≡ get_or (there (set_width d ∷ []) at bs) 0 0 → s ≡ get_or (there (set_width d ∷ []) at bs) 0 0 → r ≡ s
set-in-one bs d at r s = one

-- whatever record is put, and wherever
pub put_one : (ws vs : List ℕ) (at : ℕ) (bs r s : List ℕ) → r ≡ put_at ws vs at bs → s ≡ put_at ws vs at bs → r ≡ s
put_one ws vs at bs r s = one
