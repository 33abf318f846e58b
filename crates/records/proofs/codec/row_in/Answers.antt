use Rattle.std.proofs.Common.{sym, ◌∙◌}
use Rattle.std.proofs.lemmas.List.{length-replicate}
use Rattle.layout.specs.Laws.Records.{length-unpack}
use Rattle.records.specs.Records.{there, filled}
use Rattle.records.specs.Laws.There.{rest-all, sets-whole}
use Rattle.records.proofs.codec.row_in.Goals as goal

pub returns : goal.returns
unfolding there filled
returns g c =
    let f = c.args.form.now in
    let l = length-replicate g.row.N 0 ∙ sym f.many ∙ sym (length-unpack f.widths _) in
    let e = rw (rest-all c.args.at c.args.bytes.now) at c.get_row.ensures in
    rw (← f.whole, ← c.inside.ensures, c.if-not-inside.false) (e ∙ sym (sets-whole _ _ l))
