-- `survey_in` meets its contract: the loop keeps `Surveying`, that the survey so far with the entries ahead is the survey of all.
use mathlib.Core.Path.{◌∙◌}
use Rattle.survey.proofs.Walking.{sum_fits, surveying, surveyed, survey-on}
use Rattle.survey.proofs.areas.survey_in.Goals as goal

pub loop-entry-init : goal.loop-entry-init
loop-entry-init c =
    let a = c.args in
    rw (c.into_iter-entry-iterator.ensures.into_iter_gives, c.entries_of-entry-items.ensures.left) (surveying a.free a.least a.given c.requires)

pub run_after-run-requires : goal.run_after-run-requires
run_after-run-requires c = rw c.blocks-in-loop-entry.ensures (sum_fits c.loop-entry.invariant.walks c.in-Some.entry.words.now _ c.in-Some.ensures.steps)

pub loop-entry-preserved : goal.loop-entry-preserved
loop-entry-preserved c =
    rw (c.run_after-run.ensures, c.status.ensures, c.blocks-in-loop-entry.ensures, c.meet-found.ensures)
    (survey-on c.loop-entry.invariant c.in-Some.entry.words.now _ c.in-Some.ensures.steps)

pub returns : goal.returns
returns c = c.settle.ensures ∙ surveyed c.loop-entry.invariant c.in-None.ensures.steps.0
