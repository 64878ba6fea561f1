-- `tally_segment` meets its contract: the loop keeps `Tallying`, that the tally of the entries ahead, from what is counted so far, is that of all.
use Rattle.segment.specs.Entries.{ahead}
use Rattle.tally.proofs.Tallies.{Tallying}
use Rattle.tally.proofs.tally.tally_segment.Given as goal

abbrev pub invariant-loop-entry : goal.invariant-loop-entry
invariant-loop-entry l =
    let it = l.entry-iterator in
    Tallying l.segment l.width l.stands l.initial.so_far (ahead it.width it.rest.now) l.block l.so_far
