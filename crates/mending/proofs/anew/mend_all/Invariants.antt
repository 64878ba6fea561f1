-- `mend_all` meets its contract: the loop keeps `Mending`, with as many segments left as are not passed.
use Prim.Native.Nat.{◌-◌}
use Rattle.mending.proofs.Onward.{Mending}
use Rattle.mending.proofs.anew.mend_all.Given as goal

abbrev pub invariant-loop : goal.invariant-loop
invariant-loop l = Mending l.v l.firsts l.d l.initial.t l.t (l.end - l.counter) l.number l.start
