-- `tidy_all` meets its contract: a turn is `goes_on_lem`, and `here` has the bounds of the segment's place.
use native.Mathlib.Omega.{arith}
use native.Mathlib.Nat.{sub-zero}
use Prim.Native.Nat.{◌*◌, ◌-◌, ◌≤◌, ◌<◌}
use lib.ListN.{length}
use Rattle.meaning.specs.Words.{highest}
use Rattle.chain.proofs.Links.{part_word, one-less}
use Rattle.tidy.proofs.Following.{starts, here, tidyable, goes_on_lem, ends}
use Rattle.tidy.proofs.tidy.tidy_all.Goals.{In-loop}
use Rattle.tidy.proofs.tidy.tidy_all.Goals as goal

-- segments are left, and the one at hand lies in the directory
left : (c : In-loop) → 0 < highest c.args.words.now - c.loop.counter
left c = omega (arith, c.loop-test.true)

at_hand : (c : In-loop) → let l = c.loop in (1 ≤ l.number) × (512 * l.number ≤ length l.words) × (length l.words ≤ 15872)
at_hand c =
    let l = c.loop in
    let b = here (left c) c.requires.0 l.invariant in
    (b.0, b.1, omega (arith, l.invariant.framed.long, c.requires.0.few))

pub loop-init : goal.loop-init
loop-init c = let d = c.args.words.now in rw (sub-zero (highest d)) (starts d c.requires.0 c.requires.1)

pub overflow_sub-start : goal.overflow_sub-start
overflow_sub-start c = omega (arith, at_hand c)

pub overflow_mul-start : goal.overflow_mul-start
overflow_mul-start c = omega (arith, at_hand c)

pub overflow_add-segment : goal.overflow_add-segment
overflow_add-segment c = omega (arith, at_hand c)

pub offset_bounds-words-start : goal.offset_bounds-words-start
offset_bounds-words-start c = omega (arith, at_hand c)

pub slice_bounds-segment-end : goal.slice_bounds-segment-end
slice_bounds-segment-end c = omega (arith, at_hand c)

pub tidy_segment-requires : goal.tidy_segment-requires
tidy_segment-requires c = tidyable (left (goal.at.tidy_segment-requires c).In-loop) c.requires.0 c.loop.invariant

pub loop-preserved : goal.loop-preserved
loop-preserved c =
    let l = c.loop in
    rw (part_word l.words l.number 1 (omega arith), one-less (highest c.args.words.now) l.counter)
    (goes_on_lem (left (goal.at.loop-preserved c).In-loop) c.requires.0 l.invariant c.tidy_segment.ensures)

pub returns : goal.returns
returns c = ends (omega (arith, c.loop-test.false)) c.requires.0 c.loop.invariant
