-- `outline_of` meets its contract: the loop keeps `Outlining`, that what is counted so far with the entries ahead is what all entries give.
use Rattle.segment.specs.Entries.{ahead}
use Rattle.survey.proofs.Walking.{Outlining}
use Rattle.survey.proofs.runs.outline_of.Given as goal

abbrev pub invariant-loop-entry : goal.invariant-loop-entry
invariant-loop-entry l =
    let it = l.entry-iterator in
    Outlining l.segment l.width (ahead it.width it.rest.now) l.entries l.count l.run
