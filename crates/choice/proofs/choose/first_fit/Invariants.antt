-- `first_fit` meets its contract: the loop keeps `Choosing`, that what is chosen in the segments ahead is what is chosen in all.
use Prim.Native.Nat.{◌-◌}
use Rattle.choice.proofs.FirstFit.{Choosing}
use Rattle.choice.proofs.choose.first_fit.Given as goal

abbrev pub invariant-loop : goal.invariant-loop
invariant-loop l = Choosing l.words l.least (l.end - l.counter) l.number
