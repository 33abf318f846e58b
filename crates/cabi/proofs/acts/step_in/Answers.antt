use Rattle.std.proofs.Common.{rules}
use mathlib.Core.Path.{◌≡◌, ap, ◌∙◌}
use Prim.Native.Nat.{ℕ, ◌<◌}
use mathlib.Core.Logic.{inl, inr}
use mathlib.Core.Bool.{Bool, cond, ◌&&◌}
use mathlib.Core.List.{[], ◌∷◌}
use lib.ListN.{get_or}
use Rattle.model.specs.declared.Word.{Word}
use Rattle.model.specs.Parts.Moves.{view, tried}
use Rattle.model.specs.Bytes.{Bytes, sum}
use Rattle.model.specs.Layout.{shared_widths, set_width, head_widths, shared_of}
use Rattle.records.specs.Records.{there}
use Rattle.records.specs.Records.{put_at}
use Rattle.layout.specs.Places.{set_place, value_place}
use Rattle.model.specs.declared.Cell.TheVariants.{Spin}
use Rattle.cabi.specs.Laws.Puts.{set_put, front_put, sets_put, move_put}
use Rattle.cabi.specs.Laws.Acting.{Reading, small, step-answers, step-leaves}
use Rattle.cabi.proofs.acts.step_in.Goals as goal
use Rattle.cabi.proofs.acts.step_in.Goals.{After-fee-f, Joined-u, then-m, else-m, then-m-latest, else-m-latest, in-Add, in-Swap, in-Nothing}

bytes : (c : After-fee-f) → Bytes c.args.image.now
bytes c = λ i. (c.slice_known-1.given i).fits

-- what the step reads and works out
reading : (c : After-fee-f) → Reading c.args.d c.args.image.now c.args.k c.port_in-own.result c.touch_at-u.result c.home-j.result
    c.port_in-q.result c.set_in-before.result c.tried-m.result c.fee-f.result
reading c =
    record {
      mine = c.port_in-own.ensures;
      touch = c.touch_at-u.ensures;
      home = c.home-j.ensures;
      other = c.port_in-q.ensures;
      holders =
          c.set_in-before.ensures
          ∙ ap (λ (at : ℕ). get_or (there (set_width c.args.d ∷ []) at c.args.image.now) 0 0) c.set_place-at.ensures;
      move =
          c.tried-m.ensures
          ∙ ap (λ (w : Word). tried (view c.port_in-own.result c.active_in.result c.args.d c.args.k c.port_in-q.result.go w))
          c.word_in.ensures
          ∙ ap (λ (a : ℕ). tried (view c.port_in-own.result a c.args.d c.args.k c.port_in-q.result.go (shared_of 0 (there shared_widths (sum head_widths) c.args.image.now) []).word))
          c.active_in.ensures;
      fee = c.fee-f.ensures;
    }

small-costs : (c : After-fee-f) → (c.fee-f.result.cached < 256) × (c.fee-f.result.distributed < 256)
small-costs c = small c.args.d c.args.image.now c.args.k c.requires _ _ _ _ _ _ _ (reading c)

pub overflow_cast-result : goal.overflow_cast-result
overflow_cast-result c = record { fits = (small-costs (goal.at.overflow_cast-result c).After-fee-f).0 }

pub overflow_cast-result-2 : goal.overflow_cast-result-2
overflow_cast-result-2 c = record { fits = (small-costs (goal.at.overflow_cast-result-2 c).After-fee-f).1 }

-- the image after the copy set of a spin that is new
new_set : (c : Joined-u) → c.if-m.image ≡ cond c.tried-m.result.makes (set_put c.args.d (set_place Spin c.args.d c.home-j.result) 0 c.args.image.now) c.args.image.now
new_set c = elim c.if-m.branch [
  | then-m w ↦ w.image-is ∙ rw (w.if-m.true, ← w.set_place.ensures) w.put_set.ensures
  | else-m w ↦ rw w.if-m.false w.image-is
]

-- and after the mark
mark : (c : Joined-u) → c.if-m-latest.image ≡ cond (c.tried-m.result.sets && c.latest.result) (put_at (1 ∷ []) (1 ∷ []) (value_place c.home-j.result) c.put_port.new.image) c.put_port.new.image
mark c = elim c.if-m-latest.branch [
  | then-m-latest w ↦ w.image-is ∙ rw w.if-m-latest.true w.put_value.ensures
  | else-m-latest w ↦ rw w.if-m-latest.false w.image-is
]

-- and at the end. The call is not named, so that another in its place is refused for what it writes
front : (c : Joined-u) → c.match-u.image ≡ front_put c.touch_at-u.result.kind c.tried-m.result c.if-m-latest.image
front c = elim c.match-u.branch [
  | in-Add w ↦ w.image-is ∙ rw w.in-Add.is (search rules)
  | in-Swap w ↦ w.image-is ∙ rw w.in-Swap.is (search rules)
  | in-Nothing w ↦ elim w.in-Nothing.is [
    | inl h ↦ rw h w.image-is
    | inr r ↦ elim r [
      | inl h ↦ rw h w.image-is
      | inr h ↦ rw h w.image-is
    ]
  ]
]

pub returns : goal.returns
unfolding move_put sets_put
returns c =
    let f = (goal.at.returns c).After-fee-f in
    let j = (goal.at.returns c).Joined-u in
    let a = step-answers c.args.d c.args.image.now c.args.k c.requires _ _ _ _ _ _ _ (reading f) in
    let b = step-leaves c.args.d c.args.image.now c.args.k c.requires _ _ _ _ _ _ _ (reading f) (bytes f) in
    let sets = c.tried-m.result.sets && c.latest.result in
    record {
      value = a;
      image_after =
          rw (front j, mark j, c.put_port.ensures, c.settled.ensures, c.put_set-2.ensures, new_set j, c.set_place-at.ensures)
          (b sets (ap (λ (x : Bool). c.tried-m.result.sets && x) c.latest.ensures));
    }
