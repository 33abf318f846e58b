use Rattle.std.proofs.Common.{◌≡◌, length, arith, sym, ap, ◌∙◌}
use Rattle.std.proofs.lemmas.List.{nil_from_length}
use Rattle.listing.specs.Took.{took}
use Rattle.schedule.proofs.feed_all.Goals as goal

pub returns-after-loop-rest : goal.returns-after-loop-rest
unfolding took
returns-after-loop-rest g c =
    let none : length c.loop-rest.rest.now ≡ 0 = grind (arith, c.is_empty.ensures, c.loop-rest-test.false) in
    sym (c.loop-rest.invariant ∙ ap (took c.loop-rest.now) (nil_from_length _ none))
