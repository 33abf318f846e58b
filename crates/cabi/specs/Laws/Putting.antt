-- What a step puts into the image of a table: the image of the table that it leaves.
use Rattle.std.specs.Prelude.{◌≡◌, Bool, cond, ℕ, ◌+◌, ◌≤◌, ◌<◌, leb, length, get_or, set}
use Rattle.std.proofs.Math.Path.{refl, ap}
use Rattle.std.proofs.Common.{sym, ◌∙◌, arith, set-set}
use Rattle.std.proofs.Math.Bool.{true, false}
use Rattle.std.proofs.lemmas.Bool.{false≢true}
use mathlib.Core.List.{List, [], ◌∷◌}
use Rattle.std.proofs.Math.ListN.{length-set}
use Rattle.std.proofs.Math.Seq.{sets, get_or-set_same}
use Rattle.std.proofs.lemmas.List.{set-get_or}
use Rattle.model.specs.declared.Port.{Port}
use Rattle.model.specs.declared.Copies.{Copies}
use Rattle.model.specs.declared.Shared.{Shared}
use Rattle.model.specs.declared.Table.{Table}
use Rattle.model.specs.declared.Touch.{Touch}
use Rattle.model.specs.declared.Move.{Move}
use Rattle.model.specs.declared.Kind.{Kind}
use Rattle.model.specs.declared.Kind.TheVariants.{Read, Write, Add, Swap}
use Rattle.model.specs.declared.Kind.TheVariants as Kinds
use Rattle.model.specs.declared.Cell.{Cell}
use Rattle.model.specs.declared.Cell.TheVariants.{Nothing, Status, Go, Spin, Active, Lock, CandidateGo, SeenSpin}
use Rattle.model.specs.Table.{room, copies, table, Sized, no_port, no_copies, port_at, copies_at, put_port}
use Rattle.model.specs.Step.{with_value}
use Rattle.model.specs.Points.{settled}
use Rattle.model.specs.Parts.Charges.{put_shared, put_copies}
use Rattle.model.specs.Bytes.{sum}
use Rattle.model.specs.Layout.{shared_widths, port_widths, set_width, copied_widths, copies_widths, head_widths, port_values, port_place, size}
use Rattle.layout.specs.Places.{set_place, value_place, word_place}
use Rattle.layout.specs.Laws.Inside.{start-inside, port-inside, copied-inside, copies-inside}
use Rattle.records.specs.Records.{put_at}
use Rattle.records.specs.Laws.There.{put-inside, put-outside}
use Rattle.image.specs.Image.{encode}
use Rattle.image.proofs.Laws.Encoded.{length-encode}
use Rattle.cabi.specs.Laws.Fields.{is_word, set_in, port-put, value-put, active-put, word-put, set-put}
use Rattle.cabi.specs.Laws.Puts.{set_put, front_put, sets_put, move_put}
use Rattle.cabi.specs.Laws.Stepping.{front_after}

-- where a copy set stands: inside the image
pub set-inside : (c : Cell) (d j : ℕ) → is_word c ≡ true → j < d → set_place c d j + sum (set_width d ∷ []) ≤ size d
unfolding sum copied_widths copies_widths
set-inside Nothing d j z q = absurd (false≢true z)
set-inside Status d j z q = omega (arith, copies-inside d j q)
set-inside Go d j z q = omega (arith, copies-inside d j q)
set-inside Spin d j z q = omega (arith, copies-inside d j q)
set-inside Active d j z q = omega (arith, copied-inside d)
set-inside Lock d j z q = omega (arith, copied-inside d)
set-inside CandidateGo d j z q = omega (arith, copies-inside d j q)
set-inside SeenSpin d j z q = omega (arith, copies-inside d j q)

pub set-wide : (d : ℕ) → 0 < set_width d
unfolding set_width
set-wide d = go (leb d 16)
  where
    go : (b : Bool) → 0 < cond b 2 8
    go true = omega arith
    go false = omega arith

-- the ports with the latest value of port j set to 1
abbrev pub marked_if : Bool → ℕ → List Port → List Port
marked_if sets j ps = cond sets (set ps j (with_value 1 (get_or ps j no_port))) ps

-- single fields put into the image of a table
module _ (t : Table) (s : Sized t) (h : t.shared.d ≤ room) where
  long : length (encode t) ≡ size t.shared.d
  long = length-encode t s h

  put_word : (c : Cell) (j n : ℕ) → is_word c ≡ true → j < t.shared.d → set_put t.shared.d (set_place c t.shared.d j) n (encode t) ≡ encode (set_in c n j t)
  put_word c j n z q =
      put-inside (set_width t.shared.d ∷ []) (n ∷ []) (set_place c t.shared.d j) (encode t) (omega (arith, long, set-inside c t.shared.d j z q))
      ∙ set-put t s h c j n z q

  put-set : (c : Cell) (j n : ℕ) → j < t.shared.d → set_put t.shared.d (set_place c t.shared.d j) n (encode t) ≡ encode (set_in c n j t)
  unfolding sum
  put-set Nothing j n q =
      put-outside (set_width t.shared.d ∷ []) (n ∷ []) (size t.shared.d) (encode t) (omega (arith, long, set-wide t.shared.d))
      ∙ ap (λ (cs : List Copies). encode (table t.ports cs t.shared)) (sym (set-get_or t.copies j no_copies))
  put-set Status j n q = put_word Status j n refl q
  put-set Go j n q = put_word Go j n refl q
  put-set Spin j n q = put_word Spin j n refl q
  put-set Active j n q = put_word Active j n refl q
  put-set Lock j n q = put_word Lock j n refl q
  put-set CandidateGo j n q = put_word CandidateGo j n refl q
  put-set SeenSpin j n q = put_word SeenSpin j n refl q

  pub put-own : (k : ℕ) (p : Port) → k < t.shared.d → put_at port_widths (port_values p) (port_place k) (encode t) ≡ encode (put_port t k p)
  put-own k p q =
      put-inside port_widths (port_values p) (port_place k) (encode t) (omega (arith, long, port-inside t.shared.d k q, copied-inside t.shared.d))
      ∙ port-put t s h k p q

  put-marked : (j : ℕ) → j < t.shared.d → put_at (1 ∷ []) (1 ∷ []) (value_place j) (encode t) ≡ encode (put_port t j (with_value 1 (port_at t j)))
  unfolding value_place port_widths sum
  put-marked j q =
      put-inside (1 ∷ []) (1 ∷ []) (value_place j) (encode t) (omega (arith, long, port-inside t.shared.d j q, copied-inside t.shared.d))
      ∙ value-put t s h j 1 q

  put-mark : (j : ℕ) (sets : Bool) → j < t.shared.d
      → cond sets (put_at (1 ∷ []) (1 ∷ []) (value_place j) (encode t)) (encode t) ≡ encode (table (marked_if sets j t.ports) t.copies t.shared)
  put-mark j true q = put-marked j q
  put-mark j false q = refl

  put_front : (x : Kind) (m : Move) → front_put x m (encode t) ≡ encode (table t.ports t.copies (front_after x m t.shared))
  unfolding word_place shared_widths sum
  put_front Kinds.Nothing m = refl
  put_front Read m = refl
  put_front Write m = refl
  put_front Add m =
      put-inside (8 ∷ []) (m.active ∷ []) (sum head_widths) (encode t) (omega (arith, long, start-inside t.shared.d, copied-inside t.shared.d))
      ∙ active-put t s h m.active
  put_front Swap m =
      put-inside (1 ∷ 1 ∷ 2 ∷ []) _ word_place (encode t) (omega (arith, long, start-inside t.shared.d, copied-inside t.shared.d))
      ∙ word-put t s h m.word

-- D is as it was
d-kept : (c : Cell) (n : ℕ) (u : Shared) → (put_shared c n u).d ≡ u.d
d-kept Nothing n u = refl
d-kept Status n u = refl
d-kept Go n u = refl
d-kept Spin n u = refl
d-kept Active n u = refl
d-kept Lock n u = refl
d-kept CandidateGo n u = refl
d-kept SeenSpin n u = refl

-- the table with the copy sets after a touch, and with what a move leaves
abbrev pub sets_after : ℕ → Cell → Bool → ℕ → Table → Table
sets_after j c new n t =
    let x = copies_at t j in
    table t.ports (set t.copies j (put_copies c n (copies x.status x.go (cond new 0 x.spin)))) (put_shared c n t.shared)

abbrev pub move_after : ℕ → ℕ → Kind → Move → Bool → Table → Table
move_after k j x m sets t =
    table (marked_if sets j (set t.ports k (settled m.own))) t.copies (front_after x m t.shared)

module _ (t : Table) (s : Sized t) (h : t.shared.d ≤ room) where
  put-sets : (c : Cell) (j n : ℕ) (new : Bool) → j < t.shared.d → sets_put t.shared.d j (set_place c t.shared.d j) new n (encode t) ≡ encode (sets_after j c new n t)
  unfolding sets_put
  put-sets c j n false q = put-set t s h c j n q
  put-sets c j n true q =
      let new = set_in Spin 0 j t in
      let r : Sized new = record { ports = s.ports; copies = length-set t.copies j _ ∙ s.copies } in
      let e : copies_at new j ≡ put_copies Spin 0 (copies_at t j) = get_or-set_same t.copies j _ no_copies (omega (arith, s.copies, h, q)) in
      ap (set_put t.shared.d (set_place c t.shared.d j) n) (put-set t s h Spin j 0 q)
      ∙ put-set new r h c j n q
      ∙ rw e (ap (λ (cs : List Copies). encode (table t.ports cs (put_shared c n t.shared))) (set-set t.copies j _ _))

  marked-long : (sets : Bool) (j : ℕ) (ps : List Port) → length (marked_if sets j ps) ≡ length ps
  marked-long true j ps = length-set ps j _
  marked-long false j ps = refl

  put-move : (k j : ℕ) (x : Kind) (m : Move) (sets : Bool) → k < t.shared.d → j < t.shared.d
      → move_put k j x m sets (encode t) ≡ encode (move_after k j x m sets t)
  unfolding move_put
  put-move k j x m sets q r =
      let own = put_port t k (settled m.own) in
      let long = length-set t.ports k (settled m.own) ∙ s.ports in
      ap (λ (bs : List ℕ). front_put x m (cond sets (put_at (1 ∷ []) (1 ∷ []) (value_place j) bs) bs)) (put-own t s h k (settled m.own) q)
      ∙ ap (front_put x m) (put-mark own (record { ports = long; copies = s.copies }) h j sets r)
      ∙ put_front (table (marked_if sets j own.ports) t.copies t.shared) (record { ports = marked-long sets j own.ports ∙ long; copies = s.copies }) h x m

-- both, one after the other
pub put_step : (t : Table) → Sized t → t.shared.d ≤ room → (k j : ℕ) (u : Touch) (m : Move) (n : ℕ) (sets : Bool) → k < t.shared.d → j < t.shared.d
    → move_put k j u.kind m sets (sets_put t.shared.d j (set_place u.cell t.shared.d j) m.makes n (encode t))
    ≡ encode (move_after k j u.kind m sets (sets_after j u.cell m.makes n t))
put_step t s h k j u m n sets p q =
    let after = sets_after j u.cell m.makes n t in
    let e = d-kept u.cell n t.shared in
    ap (move_put k j u.kind m sets) (put-sets t s h u.cell j n m.makes q)
    ∙ put-move after (record { ports = s.ports; copies = length-set t.copies j _ ∙ s.copies }) (rw e h) k j u.kind m sets (rw e p) (rw e q)
