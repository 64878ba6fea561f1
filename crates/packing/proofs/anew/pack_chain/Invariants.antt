-- `pack_chain` meets its contract: the loop keeps `Renewing`, that what is written so far and the segments ahead, written anew, are the whole.
use Prim.Native.Nat.{◌-◌}
use Rattle.packing.proofs.Chains.{Renewing}
use Rattle.packing.proofs.anew.pack_chain.Given as goal

abbrev pub invariant-loop-passed : goal.invariant-loop-passed
invariant-loop-passed l = Renewing l.v l.initial.words l.initial.list l.words (l.highest - l.passed) l.number l.free l.list l.listed
