-- `run`: the present directory lies in the words kept.
use Rattle.std.proofs.Common.{◌≤◌}
use Rattle.conformance.proofs.run.Given as goal

abbrev pub invariant-loop : goal.invariant-loop
invariant-loop g l = l.size.words ≤ 15872
