-- `outline_of` meets its contract: the loop keeps `Outlining`, that what is counted so far with the entries ahead is what all entries give.
use native.Mathlib.Omega.{arith}
use Rattle.survey.proofs.Walking.{sum_fits, outlining, small, outlined, outline_on}
use Rattle.survey.proofs.runs.outline_of.Goals as goal

pub loop-entry-init : goal.loop-entry-init
loop-entry-init c =
    rw (c.into_iter-entry-iterator.ensures.into_iter_gives, c.entries_of-entry-items.ensures.left) (outlining c.requires)

pub overflow_add-count : goal.overflow_add-count
overflow_add-count c =
    let i = c.loop-entry.invariant in
    omega (arith, i.few, small i c.requires.wide, c.let_out-count.ensures.few)

pub overflow_add-entries : goal.overflow_add-entries
overflow_add-entries c = omega (arith, small c.loop-entry.invariant c.requires.wide)

pub run_after-run-requires : goal.run_after-run-requires
run_after-run-requires c = rw c.blocks-in-loop-entry.ensures (sum_fits c.loop-entry.invariant.walks c.in-Some.entry.words.now _ c.in-Some.ensures.steps)

pub loop-entry-preserved : goal.loop-entry-preserved
loop-entry-preserved c =
    let k = c.let_out-count.ensures in
    rw (c.run_after-run.ensures, c.status.ensures, c.blocks-in-loop-entry.ensures)
    (outline_on c.loop-entry.invariant c.in-Some.entry.words.now _ c.in-Some.ensures.steps _ k.is k.few)

pub overflow_add-result : goal.overflow_add-result
overflow_add-result c =
    let i = c.loop-entry.invariant in
    omega (arith, i.few, small i c.requires.wide, c.left_by.ensures.few)

pub returns : goal.returns
returns c = outlined c.loop-entry.invariant c.in-None.ensures.steps.0 c.left_by.ensures.is c.requires
