-- `met` meets its contract. The loop's invariant is `Walk`: what is found from the entry at hand on, along its bucket, is what is
-- found among all entries passed; it counts if the key may stand once. Each entry leads to an earlier one, so the measure is its number.
use lib.ListN.{length}
use Rattle.directory.proofs.Buckets.{Walk}
use Rattle.directory.proofs.clashes.Listed.met.Given as goal

abbrev pub invariant-loop-number : goal.invariant-loop-number
invariant-loop-number l = Walk l.self.d.now l.self.width l.self.places.now (length l.self.places.now) l.key l.passed l.number

abbrev pub decreases-loop-number : goal.decreases-loop-number
decreases-loop-number l = l.number
