-- `mend_segment` meets its contract: the loop keeps `Passing`. Each way through a turn is a law of Passing.antt.
use borrow.Author.Rules.{rules}
use native.Mathlib.Omega.{arith}
use native.Mathlib.Nat.{sub-zero}
use Prim.Native.Nat.{◌+◌, ◌-◌, ◌≤◌, ◌<◌}
use mathlib.Core.Path.{◌≡◌, sym, ◌∙◌}
use lib.ListN.{length, length-take, length-drop}
use Rattle.meaning.specs.Words.{slot_count}
use Rattle.walks.proofs.Slots.{most-slots}
use Rattle.mending.proofs.Stops.{last-is}
use Rattle.mending.proofs.Passing.{passing, pass_over, pass_long, pass_room, pass_stop, pass_on}
use Rattle.mending.proofs.slots.mend_segment.Goals.{In-loop-i}
use Rattle.mending.proofs.slots.mend_segment.Goals as goal

-- in a turn a slot is left, and it lies in the segment, which is as long as it was
left : (i : In-loop-i) → 0 < slot_count i.args.width - i.loop-i.i
left i = omega (arith, i.loop-i-test.true)

at_slot : (i : In-loop-i) → (i.loop-i.word + i.args.width ≤ length i.loop-i.segment) × (length i.loop-i.segment ≡ 512)
at_slot i =
    let a = i.args in
    let r = pass_room a.v a.width a.start a.segment.now i.requires.1 i.requires.0 i.loop-i.invariant (left i) in
    let w = pass_long a.v a.width a.start a.segment.now i.requires.1 i.requires.0 i.loop-i.invariant in
    (omega arith, w)

pub loop-i-init : goal.loop-i-init
loop-i-init c =
    let a = c.args in
    rw sub-zero (passing a.v a.width a.start _ c.requires.4)

pub offset_bounds-segment-word : goal.offset_bounds-segment-word
offset_bounds-segment-word c = omega (arith, at_slot c)

pub bounds-segment-word : goal.bounds-segment-word
bounds-segment-word c = omega (arith, at_slot (goal.at.bounds-segment-word c).In-loop-i, c.requires.1)

pub offset_bounds-segment-word-then-marks_here : goal.offset_bounds-segment-word-then-marks_here
offset_bounds-segment-word-then-marks_here c =
    omega (arith, at_slot (goal.at.offset_bounds-segment-word-then-marks_here c).In-loop-i)

pub bounds-segment-word-then-marks_here : goal.bounds-segment-word-then-marks_here
bounds-segment-word-then-marks_here c =
    omega (arith, at_slot (goal.at.bounds-segment-word-then-marks_here c).In-loop-i, c.requires.1)

pub returns-then-marks_here : goal.returns-then-marks_here
returns-then-marks_here c =
    let a = c.args in
    let i = (goal.at.returns-then-marks_here c).In-loop-i in
    pass_stop a.v a.width a.start a.segment.now c.requires.1 c.requires.0 c.loop-i.invariant (left i)
    _ (last-is c.loop-i.i (slot_count a.width) c.loop-i-test.true) (sym c.marks_here.ensures ∙ c.if-marks_here.true)

pub overflow_add-word : goal.overflow_add-word
overflow_add-word c = omega (arith, at_slot (goal.at.overflow_add-word c).In-loop-i)

pub offset_bounds-segment-word-in-loop-i : goal.offset_bounds-segment-word-in-loop-i
offset_bounds-segment-word-in-loop-i c = omega (arith, at_slot (goal.at.offset_bounds-segment-word-in-loop-i c).In-loop-i)

pub slice_bounds-lay_slot-end : goal.slice_bounds-lay_slot-end
slice_bounds-lay_slot-end c =
    let s = at_slot (goal.at.slice_bounds-lay_slot-end c).In-loop-i in
    search rules

pub lay_slot-so_far-requires : goal.lay_slot-so_far-requires
lay_slot-so_far-requires c =
    let s = at_slot (goal.at.lay_slot-so_far-requires c).In-loop-i in
    let m = most-slots c.args.width c.requires.1 in
    (simp (length-take, length-drop) (omega (arith, s, c.requires.1)), c.requires.3, omega (arith, c.loop-i.invariant.high))

pub loop-i-preserved : goal.loop-i-preserved
loop-i-preserved c =
    let a = c.args in
    let i = (goal.at.loop-i-preserved c).In-loop-i in
    let less : slot_count a.width - (c.loop-i.i + 1) ≡ slot_count a.width - c.loop-i.i - 1 = omega arith in
    rw less
    (pass_on a.v a.width a.start a.segment.now c.requires.1 c.requires.0 c.loop-i.invariant (left i)
    _ (last-is c.loop-i.i (slot_count a.width) c.loop-i-test.true) (sym c.marks_here.ensures ∙ c.if-marks_here.false)
    _ (omega arith) _ _ c.lay_slot-so_far.ensures c.lay_slot-so_far.auto.slot)

pub returns : goal.returns
returns c =
    let a = c.args in
    pass_over a.v a.width a.start a.segment.now c.requires.1 c.requires.0 c.loop-i.invariant (omega (arith, c.loop-i-test.false))
