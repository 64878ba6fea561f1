-- `enter_file` meets its contract: by the survey's two tests the outcome is refusal 11, refusal 12, or what the placing gives.
use mathlib.Core.Path.{refl}
use borrow.Author.Tests.{not-true, not-false}
use Rattle.meaning.specs.Answers.{refuse}
use Rattle.enter.proofs.Ready.{tidyable}
use Rattle.enter.proofs.Surveyed.{Asking, short, slotless, fits, roomy}
use Rattle.enter.proofs.enter_file.Goals.{After-survey_areas-found}
use Rattle.enter.proofs.enter_file.Goals as goal

-- what is asked for, where the areas have been surveyed
abbrev asking : After-survey_areas-found → Asking
asking k = record {
  d = k.args.d.now;
  asked = k.args.asked;
  least = k.at_least.result;
  is_least = k.at_least.ensures;
  survey = k.survey_areas-found.result.areas;
  areas = k.survey_areas-found.ensures.areas;
}

pub survey_areas-found-requires : goal.survey_areas-found-requires
survey_areas-found-requires c = tidyable c.args.v c.args.d.now c.requires

pub returns-then-not-areas : goal.returns-then-not-areas
unfolding refuse
returns-then-not-areas c =
    let q = asking (goal.at.returns-then-not-areas c).After-survey_areas-found in
    rw (short q (not-true _ c.if-not-areas.true) c.args.name c.args.channel c.args.date) (record { answer = refl; words = refl })

pub returns-then-not-areas-2 : goal.returns-then-not-areas-2
unfolding refuse
returns-then-not-areas-2 c =
    let q = asking (goal.at.returns-then-not-areas-2 c).After-survey_areas-found in
    let long = not-false _ c.if-not-areas.false in
    rw (slotless q long (not-true _ c.if-not-areas-2.true) c.args.name c.args.channel c.args.date) (record { answer = refl; words = refl })

pub place_file-requires : goal.place_file-requires
place_file-requires c =
    let q = asking (goal.at.place_file-requires c).After-survey_areas-found in
    let room = fits q (not-false _ c.if-not-areas.false) (not-false _ c.if-not-areas-2.false) _ c.wanted_of-length.ensures in
    (c.requires, c.survey_areas-found.ensures.untidy, room)

pub returns : goal.returns
returns c =
    let q = asking (goal.at.returns c).After-survey_areas-found in
    let room = roomy q (not-false _ c.if-not-areas.false) (not-false _ c.if-not-areas-2.false) _ c.wanted_of-length.ensures in
    rw (room c.args.name c.args.channel c.args.date) c.place_file.ensures
