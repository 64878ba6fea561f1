-- `tidy_all` meets its contract: the loop keeps `Going`, that the segments still ahead, tidied as the directory stands, give what all give.
use Prim.Native.Nat.{◌-◌}
use Rattle.tidy.proofs.Following.{Going}
use Rattle.tidy.proofs.tidy.tidy_all.Given as goal

abbrev pub invariant-loop : goal.invariant-loop
invariant-loop l = Going l.initial.words l.words (l.end - l.counter) l.number
