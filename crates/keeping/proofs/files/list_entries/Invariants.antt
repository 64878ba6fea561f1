-- `list_entries` meets its contract: the loop keeps `Listing`, that the files in the table and those ahead are together all.
use lib.ListN.{length}
use Rattle.segment.specs.Entries.{ahead}
use Rattle.keeping.proofs.Listing.{Listing}
use Rattle.keeping.proofs.files.list_entries.Given as goal

abbrev pub invariant-loop-entry : goal.invariant-loop-entry
invariant-loop-entry l =
    let it = l.entry-iterator in
    Listing l.d l.width l.number (length l.initial.table) (ahead it.width it.rest.now) l.at l.first l.table l.count
