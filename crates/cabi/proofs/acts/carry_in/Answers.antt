use mathlib.Core.Path.{ap, ◌∙◌}
use Rattle.model.specs.declared.Port.{Port}
use Rattle.model.specs.Layout.{port_widths, port_values, port_place}
use Rattle.records.specs.Records.{put_at}
use Rattle.cabi.specs.Laws.Acting.{order-made}
use Rattle.cabi.proofs.acts.carry_in.Goals as goal

pub returns : goal.returns
returns c =
    let a = c.args in
    let r = order-made a.d a.image.now c.requires.holds a.k a.event (λ i. (c.slice_known-1.given i).fits) c.requires.port c.requires.passes c.if-event.false c.port_in.result c.port_in.ensures in record {
      value = r.0;
      image_after = c.put_port.ensures ∙ ap (λ (x : Port). put_at port_widths (port_values x) (port_place a.k) a.image.now) c.ordered-left.ensures ∙ r.1;
    }
