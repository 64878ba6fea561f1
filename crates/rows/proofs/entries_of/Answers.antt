-- `entries_of` meets its contract: from the start all entries are ahead.
use Rattle.rows.proofs.Ahead.{starts-underway, starts-before}
use Rattle.rows.proofs.entries_of.Goals as goal

pub invariant_of-result : goal.invariant_of-result
invariant_of-result c = record { underway = starts-underway c.requires c.start.ensures }

pub returns : goal.returns
returns c = starts-before c.requires c.start.ensures
