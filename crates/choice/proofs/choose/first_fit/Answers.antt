-- `first_fit` meets its contract: the loop keeps `Choosing`, that what is chosen in the segments ahead is what is chosen in all.
use native.Mathlib.Omega.{arith}
use native.Mathlib.Nat.{sub-zero}
use mathlib.Core.Path.{◌≡◌}
use Prim.Native.Nat.{◌+◌, ◌-◌}
use lib.ListN.{length-take, length-drop}
use Rattle.meaning.specs.Words.{highest}
use Rattle.walks.proofs.Words.{header}
use Rattle.chain.proofs.Links.{Next, next, part-is}
use Rattle.choice.proofs.FirstFit.{starts, none-chosen, pass_by, chosen-here}
use Rattle.choice.proofs.choose.first_fit.Goals.{In-loop}
use Rattle.choice.proofs.choose.first_fit.Goals as goal

-- what the links say of the segment at hand
at_hand : (c : In-loop) → Next (highest c.args.words.now - c.loop.counter) c.args.words.now c.loop.number
at_hand c = next _ _ _ c.requires (omega (arith, c.loop-test.true)) c.loop.invariant.links

pub loop-init : goal.loop-init
loop-init c = let d = c.args.words.now in rw (sub-zero (highest d)) (starts d c.args.least c.requires.links)

pub overflow_sub-base : goal.overflow_sub-base
overflow_sub-base c = let v = at_hand c in omega arith

pub overflow_mul-base : goal.overflow_mul-base
overflow_mul-base c = let v = at_hand c in omega arith

pub overflow_add-segment : goal.overflow_add-segment
overflow_add-segment c = let v = at_hand c in omega arith

pub offset_bounds-words-base : goal.offset_bounds-words-base
offset_bounds-words-base c = let v = at_hand c in omega arith

pub slice_bounds-segment-end : goal.slice_bounds-segment-end
slice_bounds-segment-end c = let v = at_hand c in omega arith

pub fit_at-requires : goal.fit_at-requires
fit_at-requires c =
    let v = at_hand (goal.at.fit_at-requires c).In-loop in
    let y = c.requires in
    (simp (length-take, length-drop) (omega arith), omega arith, omega (arith, y.extra), v.low, v.most)

pub returns-in-Some : goal.returns-in-Some
returns-in-Some c =
    chosen-here c.loop.invariant (omega (arith, c.loop-test.true)) _ c.fit_at.ensures _ c.in-Some.is (at_hand (goal.at.returns-in-Some c).In-loop)

pub loop-preserved : goal.loop-preserved
loop-preserved c =
    let d = c.args.words.now in
    let less : highest d - (c.loop.counter + 1) ≡ highest d - c.loop.counter - 1 = omega arith in
    rw (part-is d c.loop.number, header d c.loop.number 1 (omega arith), less)
    (pass_by c.loop.invariant (omega (arith, c.loop-test.true)) _ c.fit_at.ensures c.in_default.is (at_hand (goal.at.loop-preserved c).In-loop).rest)

pub returns : goal.returns
returns c = none-chosen c.loop.invariant (omega (arith, c.loop-test.false))
