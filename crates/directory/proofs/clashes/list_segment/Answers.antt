-- `list_segment` meets its contract: each turn lists the place of the entry at hand (`listed-entry`), or passes it by (`passed_entry`).
use native.Mathlib.Omega.{arith}
use Prim.Native.Nat.{◌<◌}
use mathlib.Core.Path.{sym, ◌∙◌}
use Rattle.directory.proofs.Listing.{listed-entry, passed_entry, slots-start, slot-room, slots_next, slots-done}
use Rattle.directory.proofs.clashes.list_segment.Goals.{then-has_key, else-has_key}
use Rattle.directory.proofs.clashes.list_segment.Goals as goal

pub loop-entry-init : goal.loop-entry-init
loop-entry-init c =
    let a = c.args in
    rw (c.into_iter-entry-iterator.ensures.into_iter_gives, c.entries_of-entry-items.ensures.left)
    (slots-start a.segment.now a.base a.width c.requires.2 c.requires.3)

pub loop-entry-preserved : goal.loop-entry-preserved
loop-entry-preserved c =
    let l = c.loop-entry in
    let e = c.in-Some.entry.words.now in
    let room = slot-room l.invariant c.in-Some.ensures.steps in
    let few : l.count < 2232 = omega arith in
    slots_next l.invariant c.in-Some.ensures.steps
    (elim c.if-has_key.branch [
      | then-has_key w ↦ rw (w.places-is, w.count-is)
          (listed-entry c.args.width l.place e l.invariant.long few (sym c.has_key.ensures ∙ w.if-has_key.true))
      | else-has_key w ↦ rw (w.places-is, w.count-is)
          (passed_entry c.args.width l.place e l.invariant.long (sym c.has_key.ensures ∙ w.if-has_key.false))
    ])

pub returns : goal.returns
returns c = slots-done c.loop-entry.invariant c.in-None.ensures.steps.0
