-- `survey_chain` meets its contract: the loop keeps `Surveying`, that the moves and the overfull segments so far, with those of the segments
-- ahead, are all. The way along the chain keeps it inside the slice.
use native.Mathlib.Omega.{arith}
use Prim.Native.Nat.{◌+◌, ◌-◌, ◌<◌, ◌≤◌}
use mathlib.Core.Path.{◌≡◌}
use Rattle.meaning.specs.Words.{highest}
use Rattle.rules.specs.Sound.{Rule1}
use Rattle.rules.proofs.Rule5.{rule1-holds}
use Rattle.rules.proofs.Soundness.{Sound, sound}
use Rattle.tally.proofs.Surveys.{survey_starts, survey-over, surveyable, survey-next}
use Rattle.tally.proofs.survey.survey_chain.Goals.{Start}
use Rattle.tally.proofs.survey.survey_chain.Goals as goal

-- what is known at the call: the directory is sound, and rule 1 bounds the slice
known : (c : Start) → Sound c.args.v c.args.words.now
known c = sound _ _ c.requires

first-rule : (c : Start) → Rule1 c.args.v c.args.words.now
first-rule c = rule1-holds _ _ (known c).size

pub bounds-words-3 : goal.bounds-words-3
bounds-words-3 c = let r = first-rule (goal.at.bounds-words-3 c).Start in omega arith

pub bounds-words-2 : goal.bounds-words-2
bounds-words-2 c = let r = first-rule (goal.at.bounds-words-2 c).Start in omega arith

pub loop-passed-init : goal.loop-passed-init
loop-passed-init c =
    let d = c.args.words.now in
    let e : highest d - 0 ≡ highest d = omega arith in
    rw e (survey_starts (known (goal.at.loop-passed-init c).Start))

pub survey_segment-so_far-requires : goal.survey_segment-so_far-requires
survey_segment-so_far-requires c =
    let ahead : 0 < highest c.args.words.now - c.loop-passed.passed = omega arith in
    surveyable (sound _ _ c.requires) c.loop-passed.invariant ahead

pub loop-passed-preserved : goal.loop-passed-preserved
loop-passed-preserved c =
    let d = c.args.words.now in
    let ahead : 0 < highest d - c.loop-passed.passed = omega arith in
    let less : highest d - (c.loop-passed.passed + 1) ≡ highest d - c.loop-passed.passed - 1 = omega arith in
    rw less (survey-next (sound _ _ c.requires) c.loop-passed.invariant ahead _ c.survey_segment-so_far.ensures)

pub returns : goal.returns
returns c =
    let over : highest c.args.words.now - c.loop-passed.passed ≤ 0 = omega arith in
    survey-over (sound _ _ c.requires) c.loop-passed.invariant over
