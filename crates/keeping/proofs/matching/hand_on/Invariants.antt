-- `hand_on` meets its contract: each turn hands a row on to the next place (`HandedOn`).
use Rattle.keeping.proofs.Taking.{HandedOn}
use Rattle.keeping.proofs.matching.hand_on.Given as goal

abbrev pub invariant-loop-k : goal.invariant-loop-k
invariant-loop-k l = HandedOn l.initial.carry l.fn.table l.table l.carry l.k
