-- `clash` meets its contract. The loop's invariant is `Table`: the buckets hold the entries passed, no two of which clash.
use lib.ListN.{length}
use Rattle.directory.proofs.Buckets.{Table}
use Rattle.directory.proofs.clashes.Listed.clash.Given as goal

abbrev pub invariant-loop-passed : goal.invariant-loop-passed
invariant-loop-passed l =
    Table l.self.d.now l.self.width l.self.places.now (length l.self.places.now) l.latest l.earlier l.passed
