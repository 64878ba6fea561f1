-- `mend_segment` meets its contract: the loop keeps `Passing`, with as many slots left as are not passed.
use Prim.Native.Nat.{◌-◌}
use Rattle.mending.proofs.Passing.{Passing}
use Rattle.mending.proofs.slots.mend_segment.Given as goal

abbrev pub invariant-loop-i : goal.invariant-loop-i
invariant-loop-i l = Passing l.v l.width l.start l.initial.segment (l.count - l.i) l.word l.so_far l.segment
