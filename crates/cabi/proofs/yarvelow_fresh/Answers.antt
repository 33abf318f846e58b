use mathlib.Core.Path.{sym, ◌∙◌}
use native.Mathlib.Omega.{arith}
use Rattle.cabi.specs.Laws.Fresh.{fresh-refused, fresh-left, fresh-small, fresh-written, fresh-unwritten}
use Rattle.cabi.proofs.yarvelow_fresh.Goals as goal

pub returns-then-not-size_good : goal.returns-then-not-size_good
returns-then-not-size_good c =
    let m = fresh-refused c.args.d c.args.room.now (sym c.size_good.ensures ∙ c.if-not-size_good.true) in
    record { value = c.number.ensures ∙ m.0; room_after = m.1 }

pub overflow_mul-result : goal.overflow_mul-result
overflow_mul-result c =
    record { fits = omega (arith, fresh-small c.args.d c.args.room.now (sym c.size_good.ensures ∙ c.if-not-size_good.false) _ c.in-Ok.ensures.value) }

pub returns-in-Ok : goal.returns-in-Ok
returns-in-Ok c =
    let g = sym c.size_good.ensures ∙ c.if-not-size_good.false in
    record { value = fresh-written c.args.d c.args.room.now g _ c.in-Ok.ensures.value; room_after = fresh-left c.args.d c.args.room.now g _ c.in-Ok.ensures.room_after }

pub returns-in-Err : goal.returns-in-Err
returns-in-Err c =
    let g = sym c.size_good.ensures ∙ c.if-not-size_good.false in
    record {
      value = omega (arith, c.number-in-Err.ensures, fresh-unwritten c.args.d c.args.room.now g _ c.in-Err.ensures.value);
      room_after = fresh-left c.args.d c.args.room.now g _ c.in-Err.ensures.room_after;
    }
