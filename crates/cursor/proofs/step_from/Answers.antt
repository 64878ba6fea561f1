-- `step_from` meets its contract: a turn ends at an entry or at a link that names no segment, or goes on at the segment that the link names.
use native.Mathlib.Omega.{arith}
use mathlib.Core.Path.{◌≡◌, sym, ◌∙◌}
use lib.ListN.{length-take, length-drop}
use Rattle.chain.proofs.Links.{part_word}
use Rattle.cursor.specs.Cursor.{on_entry}
use Rattle.cursor.proofs.Stepping.{segment-is, standing, entry-slot, entry-part, row-part, steps}
use Rattle.cursor.proofs.Stepping.{at_entry, at_last, at_none, at-link, at-no-slot}
use Rattle.cursor.proofs.step_from.Goals.{After-on_entry}
use Rattle.cursor.proofs.step_from.Goals as goal

-- whether an entry stands at the cursor: what the call says of the part, said of the directory
entry_here : (c : After-on_entry) → c.on_entry.result ≡ on_entry c.args.d.now c.loop.here
entry_here c = entry-part c.args.d.now c.loop.here _ c.width_of-width.ensures c.on_entry.ensures

pub returns-then-not-is_inside : goal.returns-then-not-is_inside
returns-then-not-is_inside c = at-no-slot c.args.d.now c.args.cursor (sym c.is_inside.ensures ∙ c.if-not-is_inside.true)

pub width_of-width-requires : goal.width_of-width-requires
width_of-width-requires c =
    let x = standing c.args.d.now c.args.cursor (sym c.is_inside.ensures ∙ c.if-not-is_inside.false) in
    omega arith

pub loop-init : goal.loop-init
loop-init c = steps c.args.d.now c.args.cursor (sym c.is_inside.ensures ∙ c.if-not-is_inside.false)

pub see_entry-requires : goal.see_entry-requires
see_entry-requires c =
    let l = c.loop in
    let x = l.invariant.stands in
    let w = c.width_of-width.ensures in
    let m = entry-slot c.args.d.now l.here x (sym (entry_here (goal.at.see_entry-requires c).After-on_entry) ∙ c.if-on_entry.true) in
    (simp (length-take, length-drop) (omega arith), omega arith, omega arith, x.some, rw w m, x.small)

pub returns-then-on_entry : goal.returns-then-on_entry
returns-then-on_entry c =
    let l = c.loop in
    rw (row-part c.args.d.now l.here _ c.width_of-width.ensures c.see_entry.ensures)
    (at_entry l.invariant c.loop-test.true (sym (entry_here (goal.at.returns-then-on_entry c).After-on_entry) ∙ c.if-on_entry.true))

pub returns-then-not-is_segment : goal.returns-then-not-is_segment
returns-then-not-is_segment c =
    at_last c.loop.invariant c.loop-test.true
    (sym (entry_here (goal.at.returns-then-not-is_segment c).After-on_entry) ∙ c.if-on_entry.false)
    (rw (part_word c.args.d.now c.loop.here.seg 1 (omega arith)) at (sym c.is_segment.ensures ∙ c.if-not-is_segment.true))

pub first_slot-here-requires : goal.first_slot-here-requires
first_slot-here-requires c =
    segment-is c.args.d.now _ (sym c.is_segment.ensures ∙ c.if-not-is_segment.false)

pub loop-preserved : goal.loop-preserved
loop-preserved c =
    at-link c.loop.invariant c.loop-test.true c.first_slot-here.result
    (sym (entry_here (goal.at.loop-preserved c).After-on_entry) ∙ c.if-on_entry.false)
    (rw (part_word c.args.d.now c.loop.here.seg 1 (omega arith)) at (sym c.is_segment.ensures ∙ c.if-not-is_segment.false))
    (rw (part_word c.args.d.now c.loop.here.seg 1 (omega arith)) at c.first_slot-here.ensures)

pub returns : goal.returns
returns c = at_none c.loop.invariant c.loop-test.false
