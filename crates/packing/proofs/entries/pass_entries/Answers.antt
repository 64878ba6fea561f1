-- `pass_entries` meets its contract: for the segment's words and for the list the loop keeps `Walking`, that what is written so far, with the
-- words of the entries ahead, is what all make.
use Rattle.packing.proofs.Walks.{walking, walk_over, walk-length, walk_entry, walk_room, walk_next}
use Rattle.packing.proofs.Outs.{packed_stepwise, list_stepwise}
use Rattle.packing.proofs.entries.pass_entries.Goals as goal

pub loop-entry-init : goal.loop-entry-init
loop-entry-init c =
    rw (c.into_iter-entry-iterator.ensures.into_iter_gives, c.entries_of-entry-items.ensures.left)
    (record { entries = walking c.requires.0; moves = walking c.requires.0 })

pub pass_entry-so_far-requires : goal.pass_entry-so_far-requires
pass_entry-so_far-requires c =
    let r = c.requires in
    let i = c.loop-entry.invariant in
    let e = c.in-Some.entry.words.now in
    let next = c.in-Some.ensures.steps in
    let long = walk-length r.0 (packed_stepwise _) r.1 i.entries e _ next in (
      walk_entry r.0 (packed_stepwise _) r.1 i.entries e _ next,
      rw long (walk_room r.0 (packed_stepwise _) r.1 i.entries e _ next),
      walk_room r.0 list_stepwise r.2 i.moves e _ next,
    )

pub loop-entry-preserved : goal.loop-entry-preserved
loop-entry-preserved c =
    let r = c.requires in
    let i = c.loop-entry.invariant in
    let e = c.in-Some.entry.words.now in
    let next = c.in-Some.ensures.steps in
    let o = c.pass_entry-so_far.ensures in
    let long = walk-length r.0 (packed_stepwise _) r.1 i.entries e _ next in
    let w = rw long at o.entries in
    rw c.blocks-in-loop-entry.ensures
    (record {
      entries = walk_next r.0 (packed_stepwise _) r.1 i.entries e _ next _ _ _ w o.free;
      moves = walk_next r.0 list_stepwise r.2 i.moves e _ next _ _ _ o.moves o.free;
    })

pub returns : goal.returns
returns c =
    let r = c.requires in
    let i = c.loop-entry.invariant in
    let none = c.in-None.ensures.steps.0 in
    (walk_over r.0 (packed_stepwise _) r.1 i.entries none, walk_over r.0 list_stepwise r.2 i.moves none)
