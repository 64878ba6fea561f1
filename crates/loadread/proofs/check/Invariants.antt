-- `check` meets its contract: each turn leaves what `Checking` says of the stream behind the part (laws `check_goes`, `check_ends`).
use lib.ListN.{length}
use Rattle.loadread.proofs.Known.{Checking}
use Rattle.loadread.proofs.check.Given as goal

abbrev pub invariant-loop-length : goal.invariant-loop-length
invariant-loop-length l = Checking l.size l.stream l.part l.rest

abbrev pub decreases-loop-length : goal.decreases-loop-length
decreases-loop-length l = length l.rest
