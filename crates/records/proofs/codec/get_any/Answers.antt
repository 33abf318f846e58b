-- Before a turn the number is that of the bytes after those that are left; it stays below that of eight bytes.
use Rattle.std.proofs.Common.{◌≡◌, ◌+◌, ◌*◌, ◌^◌, ◌<◌, arith, length}
use Rattle.model.specs.Bytes.{value}
use Rattle.records.specs.Laws.Rows.{get-turn, get-fits, get-last, field-below}
use Rattle.records.proofs.codec.get_any.Goals as goal

-- the number with one byte more
got : (c : goal.After-from)
    → value c.next.new.self.iter.rest.now + 256 ^ length c.next.new.self.iter.rest.now * (c.from.result + 256 * c.loop-b.x) ≡ value c.args.field.now
got c = rw c.from.ensures (get-turn c.next.new.self.iter.rest.now _ c.loop-b.x _ (rw c.in-Some.ensures.steps at c.loop-b.invariant))

small : (c : goal.After-from) → c.from.result + 256 * c.loop-b.x < 18446744073709551616
small c = get-fits _ _ _ _ (got c) (field-below c.args.field.now (λ i. (c.type_inv.field i).fits) c.requires)

pub overflow_mul-x : goal.overflow_mul-x
overflow_mul-x c = omega (arith, small c)

pub overflow_add-x : goal.overflow_add-x
overflow_add-x c = omega (arith, small c)

pub loop-b-preserved : goal.loop-b-preserved
loop-b-preserved c = got c

pub returns : goal.returns
returns c = get-last _ _ _ c.in-None.ensures.steps.0 c.loop-b.invariant
