-- `find_entry` meets its contract. The loop's invariant is `Finding`: what is found in the segments still ahead is what is found in
-- all. A turn ends at a place, which the segment holds and so the directory, or passes a segment by. Assumes nothing.
use Prim.Native.Nat.{◌-◌}
use Rattle.find.proofs.Finding.{Finding}
use Rattle.find.proofs.find_entry.Given as goal

abbrev pub invariant-loop : goal.invariant-loop
invariant-loop l = Finding l.d l.key (l.end - l.counter) l.segment
