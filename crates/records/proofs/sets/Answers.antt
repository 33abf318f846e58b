use Rattle.layout.specs.Widths.{narrow-replicate, sum-replicate}
use Rattle.records.proofs.sets.Goals as goal

pub invariant_of-result-clause-whole : goal.invariant_of-result-clause-whole
invariant_of-result-clause-whole g c = sum-replicate _ _

pub invariant_of-result-clause-small : goal.invariant_of-result-clause-small
invariant_of-result-clause-small g c = narrow-replicate _ _ c.set_width-width.ensures.upper_bound
