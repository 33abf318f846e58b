use mathlib.Core.Path.{ap, ◌∙◌}
use Rattle.model.specs.declared.Table.{Table}
use Rattle.image.proofs.Laws.Checking.{seen-port, seen-copies, seen-size, port-bad}
use Rattle.image.proofs.checking.Held.port_bad.Goals as goal

pub returns : goal.returns
returns c =
    let t = c.args.self.now in
    let i = c.self.inside in
    let v = c.self.invariant in
    c.port_fault.ensures
    ∙ port-bad t c.args.k i.shared c.port_in-p.result c.copies_in.result c.made.result c.made-2.result c.requires (v.2 ∙ ap (λ (t : Table). t.shared) c.self.view_is)
    (c.port_in-p.ensures ∙ seen-port t i.bytes.now i.d v.0 v.1 c.self.view_is c.args.k c.requires)
    (c.copies_in.ensures ∙ seen-copies t i.bytes.now i.d v.0 v.1 c.self.view_is c.args.k c.requires)
    c.made.ensures
    c.made-2.ensures
    c.args.bad
    (seen-size t i.bytes.now i.d v.0 v.1 c.self.view_is)
