-- `skip` meets its contract. The loop's invariant: the place after what is left to skip, from here, is the place after all of it.
use mathlib.Core.Path.{◌≡◌}
use Prim.Native.Nat.{◌-◌}
use Rattle.reader.specs.Read.{skipped}
use Rattle.reader.proofs.skip.Given as goal

abbrev pub invariant-loop : goal.invariant-loop
invariant-loop l = skipped (l.fn.count - l.counter) l.words l.here ≡ skipped l.fn.count l.words l.initial.here
