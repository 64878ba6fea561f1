-- `feed` meets its contract: each turn leaves what `Feeding` says of the rest of the piece (laws `feed_goes`, `feed_ends`, `feed_decided`).
use lib.ListN.{length}
use Rattle.pieces.proofs.Turns.{Feeding}
use Rattle.pieces.proofs.reading.feed.Given as goal

abbrev pub invariant-loop-rest : goal.invariant-loop-rest
invariant-loop-rest l = Feeding l.size l.initial.state l.piece l.initial.words l.state l.words l.rest

abbrev pub decreases-loop-rest : goal.decreases-loop-rest
decreases-loop-rest l = length l.rest
