-- `open_chain` meets its contract: the loop keeps `Seeking`, that the segments ahead have a tentative entry exactly where all have.
use Rattle.tally.proofs.Opens.{Seeking}
use Rattle.tally.proofs.open.open_chain.Given as goal

abbrev pub invariant-loop : goal.invariant-loop
invariant-loop l = Seeking l.words l.counter l.number
