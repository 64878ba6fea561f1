-- `survey_areas` meets its contract: the loop keeps `Visiting`, that what is found so far with the segments ahead is what is found in all.
use Prim.Native.Nat.{◌-◌}
use Rattle.survey.proofs.Along.{Visiting}
use Rattle.survey.proofs.areas.survey_areas.Given as goal

abbrev pub invariant-loop : goal.invariant-loop
invariant-loop l = Visiting l.words l.least (l.end - l.counter) l.number l.areas l.untidy
