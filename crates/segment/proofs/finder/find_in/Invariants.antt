-- `find_in` meets its contract: the loop keeps `Counted`, that what is found among the entries still ahead is what is found in all.
use Rattle.segment.specs.Entries.{ahead}
use Rattle.segment.proofs.Searching.{Counted}
use Rattle.segment.proofs.finder.find_in.Given as goal

abbrev pub invariant-loop-passed : goal.invariant-loop-passed
invariant-loop-passed l =
    let it = l.passed-iterator in
    Counted l.segment l.width l.number l.base l.first l.key (ahead it.iter.width it.iter.rest.now) it.count l.block
