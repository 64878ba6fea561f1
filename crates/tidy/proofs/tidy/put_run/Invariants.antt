-- `put_run` meets its contract: so many of the entry's words have been copied as turns were taken.
use Rattle.std.proofs.Common.{◌≡◌}
use Rattle.std.proofs.Math.Seq.{paste}
use Rattle.tidy.proofs.tidy.put_run.Given as goal

abbrev pub invariant-loop-k : goal.invariant-loop-k
invariant-loop-k l = l.out ≡ paste l.fn.out l.place l.entry.words.now l.k
