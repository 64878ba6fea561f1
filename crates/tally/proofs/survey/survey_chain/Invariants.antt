-- `survey_chain` meets its contract: the loop keeps `Surveying`, that the moves and the overfull segments so far, with those of the segments
-- ahead, are all.
use Prim.Native.Nat.{◌-◌}
use Rattle.tally.proofs.Surveys.{Surveying}
use Rattle.tally.proofs.survey.survey_chain.Given as goal

abbrev pub invariant-loop-passed : goal.invariant-loop-passed
invariant-loop-passed l = Surveying l.v l.words (l.highest - l.passed) l.number l.so_far
