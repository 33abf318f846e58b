-- Before a turn the fields still to put give the whole record.
use Rattle.std.proofs.Common.{◌∙◌, inl, inr}
use Rattle.records.specs.Laws.Rows.{put-field, put-end}
use Rattle.records.proofs.codec.put_row.Goals as goal

pub loop-w-preserved : goal.loop-w-preserved
loop-w-preserved g c =
    put-field c.in-Some.w.now c.in-Some.v.now c.next.new.self.a.rest.now c.next.new.self.b.rest.now c.loop-w.i c.loop-w.room c.put.new.field _
    (rw (c.in-Some.ensures.steps.0, c.in-Some.ensures.steps.1) at c.loop-w.invariant) c.put.ensures

pub returns : goal.returns
returns g c = put-end _ _ _ _ _ (elim c.in-None.ensures.steps [ inl s ↦ s.1.0 | inr s ↦ c.loop-w.invariant.even ∙ s.1.0 ]) c.loop-w.invariant
