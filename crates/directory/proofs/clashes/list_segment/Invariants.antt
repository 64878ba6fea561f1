-- `list_segment` meets its contract. The loop's invariant is `Slots`: the places listed, and those of the entries ahead in the segment
-- that can clash, are those listed before and all of the segment's.
use Rattle.segment.specs.Entries.{ahead}
use Rattle.directory.proofs.Listing.{Slots}
use Rattle.directory.proofs.clashes.list_segment.Given as goal

abbrev pub invariant-loop-entry : goal.invariant-loop-entry
invariant-loop-entry l =
    let it = l.entry-iterator in
    Slots l.segment l.base l.width l.initial.places l.listed l.places l.count (ahead it.width it.rest.now) l.place
