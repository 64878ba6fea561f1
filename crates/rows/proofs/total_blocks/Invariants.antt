-- `total_blocks` meets its contract: the loop keeps that the blocks counted, and those of the entries ahead, are those of all entries
-- (laws of Sums).
use Rattle.rows.specs.Rows.{ahead}
use Rattle.rows.proofs.Sums.{Summing}
use Rattle.rows.proofs.total_blocks.Given as goal

abbrev pub invariant-loop-seen : goal.invariant-loop-seen
invariant-loop-seen l =
    let it = l.seen-iterator in
    Summing l.d (ahead it.d.now it.here) l.sums
