-- One name for all definitions: who unfolds it can compute an event.
use Rattle.std.specs.Prelude.{ℕ}
use Rattle.model.specs.Table.{room, most, read_spin, fresh_table, size_good}
use Rattle.model.specs.Mask.{stands, within, joined, alone, added}
use Rattle.model.specs.Ring as Ring
use Rattle.model.specs.Points.{tens, back, one_of, own_place, seen_place, candidate_place, candidate_spin_place, settled}
use Rattle.model.specs.Good.{every_below, named, place_empty, spin_good, shared_rules, field_rules, work_rules, copy_rules, ports_rules, rules, passed, good}
use Rattle.model.specs.Layout.{port_values, copies_values}
use Rattle.model.specs.Step.{same, swapped, unasked, step}
use Rattle.model.specs.Event.{first_of, refusals, refusal, ordered, carried, event, fresh}
use Rattle.model.specs.Run.{ran, done, steps_at, grants, passed_over, passage_cost, stepless}

unfoldable pub everything : ℕ
unfolding room most read_spin fresh_table stands within joined alone added Ring.after Ring.walk Ring.next tens back one_of own_place seen_place candidate_place candidate_spin_place settled every_below named size_good port_values copies_values place_empty spin_good shared_rules field_rules work_rules copy_rules ports_rules rules passed good same swapped unasked step first_of refusals refusal ordered carried event fresh ran done steps_at grants passed_over passage_cost stepless
everything = 0
