-- `survey_in` meets its contract: the loop keeps `Surveying`, that the survey so far with the entries ahead is the survey of all.
use Rattle.segment.specs.Entries.{ahead}
use Rattle.survey.proofs.Walking.{Surveying}
use Rattle.survey.proofs.areas.survey_in.Given as goal

abbrev pub invariant-loop-entry : goal.invariant-loop-entry
invariant-loop-entry l =
    let it = l.entry-iterator in
    Surveying l.segment l.width l.free l.least l.initial.found (ahead it.width it.rest.now) l.found l.run
