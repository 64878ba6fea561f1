-- `list_chain` meets its contract. The loop's invariant is `Segments`: the places listed, and those of the segments ahead, are all.
use Rattle.directory.proofs.Listing.{Segments}
use Rattle.directory.proofs.clashes.list_chain.Given as goal

abbrev pub invariant-loop : goal.invariant-loop
invariant-loop l = Segments l.d l.places l.count l.counter l.number
