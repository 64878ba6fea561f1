-- `write_tidied` meets its contract: each turn passes an entry by (`goes_on_lem`); at the end nothing is ahead, and `ends` has the rest.
use Rattle.tidy.proofs.Tidying.{room, starts, out_fits, sum_fits, goes_on_lem, last-room, ends}
use Rattle.tidy.proofs.tidy.write_tidied.Goals as goal

pub loop-entry-init : goal.loop-entry-init
loop-entry-init c =
    rw (c.into_iter-entry-iterator.ensures.into_iter_gives, c.entries_of-entry-items.ensures.left)
    (starts c.args.out.now c.requires.0 c.requires.2)

pub pass_entry-place-requires : goal.pass_entry-place-requires
pass_entry-place-requires c =
    out_fits c.loop-entry.invariant c.in-Some.entry.words.now _ c.in-Some.ensures.steps (room c.requires.0 c.requires.1)

pub run_after-run-requires : goal.run_after-run-requires
run_after-run-requires c = sum_fits c.loop-entry.invariant c.in-Some.entry.words.now _ c.in-Some.ensures.steps

pub loop-entry-preserved : goal.loop-entry-preserved
loop-entry-preserved c =
    rw c.run_after-run.ensures
    (goes_on_lem c.loop-entry.invariant c.in-Some.entry.words.now _ c.in-Some.ensures.steps (room c.requires.0 c.requires.1) c.pass_entry-place.ensures)

pub finish-requires : goal.finish-requires
finish-requires c =
    last-room c.loop-entry.invariant c.requires.0 c.in-None.ensures.steps.0 (room c.requires.0 c.requires.1)

pub returns : goal.returns
returns c = ends c.loop-entry.invariant c.requires.0 c.in-None.ensures.steps.0 c.finish.ensures
