-- `same_files` meets its contract: the loop keeps `Matching`, that what is left of both lists is the same as both were.
use Rattle.keeping.proofs.Taking.{Matching}
use Rattle.keeping.proofs.matching.same_files.Given as goal

abbrev pub invariant-loop-i : goal.invariant-loop-i
invariant-loop-i l = Matching l.d l.files l.w l.initial.table l.table l.i
