-- `fit_in` meets its contract: the loop keeps `Fitting`, that what is chosen among the entries ahead is what is chosen among all.
use Rattle.segment.specs.Entries.{ahead}
use Rattle.choice.proofs.Fitting.{Fitting}
use Rattle.choice.proofs.choose.fit_in.Given as goal

abbrev pub invariant-loop-before : goal.invariant-loop-before
invariant-loop-before l =
    let it = l.before-iterator in
    Fitting l.segment l.width l.number l.free l.least (ahead it.iter.width it.iter.rest.now) it.count l.at l.first l.tentative
