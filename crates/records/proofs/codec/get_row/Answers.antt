-- Before turn i the fields still to get give the whole record.
use Rattle.std.proofs.Common.{arith, ◌≡◌, sym, ◌∙◌, length, replicate}
use Rattle.std.proofs.lemmas.List.{length-replicate}
use Rattle.layout.specs.Laws.Records.{length-unpack}
use Rattle.records.specs.Laws.Rows.{get-field, get-end, field_fits}
use Rattle.records.specs.Laws.There.{sets-whole}
use Rattle.records.proofs.codec.get_row.Goals as goal

pub loop-i-init : goal.loop-i-init
loop-i-init g c =
    let f = c.args.form.now in
    let l : length (replicate g.row.N 0) ≡ length f.widths = length-replicate g.row.N 0 ∙ sym f.many in
    record { long = l; fits = c.requires; text = sets-whole _ _ (l ∙ sym (length-unpack f.widths c.args.bytes.now)) }

pub split_at-requires : goal.split_at-requires
split_at-requires g c =
    let f = c.args.form.now in
    omega (arith, c.loop-i.invariant.fits, field_fits f.widths c.loop-i.i (omega (arith, f.many, c.loop-i-test.true)))

-- what was got is the field's number, by the facts of the turn, whatever their names
pub loop-i-preserved : goal.loop-i-preserved
loop-i-preserved g c =
    let f = c.args.form.now in
    get-field f.widths c.loop-i.i c.loop-i.values c.loop-i.rest.now _ _ c.get.result (omega (arith, f.many, c.loop-i-test.true)) c.loop-i.invariant (grind arith)
    c.split_at.ensures.back

pub returns : goal.returns
returns g c = let f = c.args.form.now in get-end f.widths c.loop-i.i _ _ _ (omega (arith, f.many, c.loop-i-test.false)) c.loop-i.invariant
