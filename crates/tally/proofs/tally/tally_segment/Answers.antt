-- `tally_segment` meets its contract: the loop keeps `Tallying`, that the tally of the entries ahead, from what is counted so far, is that of
-- all. A turn counts an entry more (`tally_next`).
use Rattle.tally.proofs.Tallies.{tallying, tally_over, tally_next}
use Rattle.tally.proofs.tally.tally_segment.Goals as goal

pub loop-entry-init : goal.loop-entry-init
loop-entry-init c =
    let a = c.args in
    rw (c.into_iter-entry-iterator.ensures.into_iter_gives, c.entries_of-entry-items.ensures.left)
    (tallying a.segment.now a.width a.stands a.t c.requires)

pub loop-entry-preserved : goal.loop-entry-preserved
loop-entry-preserved c =
    rw (c.with_entry-so_far.ensures, c.blocks-in-loop-entry.ensures)
    (tally_next c.loop-entry.invariant c.in-Some.entry.words.now _ c.in-Some.ensures.steps)

pub returns : goal.returns
returns c = tally_over c.loop-entry.invariant c.in-None.ensures.steps.0
