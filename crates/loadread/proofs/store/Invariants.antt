-- `store` meets its contract: each turn leaves what `Storing` says of the stream behind the part (laws `store_goes`, `store_ends`).
use lib.ListN.{length}
use Rattle.loadread.proofs.Known.{Storing}
use Rattle.loadread.proofs.store.Given as goal

abbrev pub invariant-loop-length : goal.invariant-loop-length
invariant-loop-length l = Storing l.stream l.initial.words l.words l.part l.rest

abbrev pub decreases-loop-length : goal.decreases-loop-length
decreases-loop-length l = length l.rest
