use Rattle.std.proofs.Common.{arith}
use Rattle.listing.proofs.Laws.Took.{fed-rest}
use Rattle.schedule.proofs.feed.Goals as goal

pub returns-clause-rest_to_take : goal.returns-clause-rest_to_take
returns-clause-rest_to_take g c = (fed-rest _ c.args.run c.args.piece.now c.feed-fed.result c.feed-fed.ensures.value (omega arith)).0

pub returns-clause-at_its_end : goal.returns-clause-at_its_end
returns-clause-at_its_end g c = (fed-rest _ c.args.run c.args.piece.now c.feed-fed.result c.feed-fed.ensures.value (omega arith)).1
