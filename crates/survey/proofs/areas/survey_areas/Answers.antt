-- `survey_areas` meets its contract: the loop keeps `Visiting`, that what is found so far with the segments ahead is what is found in all.
use native.Mathlib.Omega.{arith}
use native.Mathlib.Nat.{sub-zero}
use mathlib.Core.Path.{◌≡◌, ◌∙◌}
use mathlib.Core.Bool.{◌||◌}
use Prim.Native.Nat.{◌-◌, ◌<◌}
use Rattle.meaning.specs.Words.{highest}
use Rattle.chain.proofs.Links.{Next, next, part_word, one-less}
use Rattle.survey.proofs.Along.{starts, all-surveyed, ready, one-surveyed}
use Rattle.survey.proofs.areas.survey_areas.Goals.{In-loop, then-untidy, else-untidy}
use Rattle.survey.proofs.areas.survey_areas.Goals as goal

-- segments are left, and what the links say of the one at hand
left : (c : In-loop) → 0 < highest c.args.words.now - c.loop.counter
left c = omega (arith, c.loop-test.true)

at_hand : (c : In-loop) → Next (highest c.args.words.now - c.loop.counter) c.args.words.now c.loop.number
at_hand c = next _ _ _ c.requires.0 (left c) c.loop.invariant.links

pub loop-init : goal.loop-init
loop-init c = let d = c.args.words.now in rw (sub-zero (highest d)) (starts d c.args.least c.requires.0)

pub overflow_sub-base : goal.overflow_sub-base
overflow_sub-base c = let v = at_hand c in omega arith

pub overflow_mul-base : goal.overflow_mul-base
overflow_mul-base c = let v = at_hand c in omega arith

pub overflow_add-segment : goal.overflow_add-segment
overflow_add-segment c = let v = at_hand c in omega arith

pub offset_bounds-words-base : goal.offset_bounds-words-base
offset_bounds-words-base c = let v = at_hand c in omega arith

pub slice_bounds-segment-end : goal.slice_bounds-segment-end
slice_bounds-segment-end c = let v = at_hand c in omega arith

pub survey_segment-found-requires : goal.survey_segment-found-requires
survey_segment-found-requires c =
    let v = at_hand (goal.at.survey_segment-found-requires c).In-loop in
    ready c.args.words.now c.requires.0 c.loop.number v.low v.high c.requires.1

pub loop-preserved : goal.loop-preserved
loop-preserved c =
    let d = c.args.words.now in
    let l = c.loop in
    let v = at_hand (goal.at.loop-preserved c).In-loop in
    let some : c.if-untidy.untidy ≡ l.untidy || c.survey_segment-found.result.untidy =
    elim c.if-untidy.branch [ then-untidy w ↦ w.untidy-is ∙ rw w.if-untidy.true | else-untidy w ↦ w.untidy-is ∙ rw w.if-untidy.false ] in
    rw (part_word d l.number 1 (omega arith), one-less (highest d) l.counter)
    (one-surveyed d c.requires.0 l.number v.low v.high l.invariant (left (goal.at.loop-preserved c).In-loop) _ c.survey_segment-found.ensures _ some)

pub returns : goal.returns
returns c = all-surveyed c.requires.0 c.loop.invariant (omega (arith, c.loop-test.false))
