-- `total_blocks` meets its contract, by the laws of Sums.
use mathlib.Core.Path.{ap, ◌∙◌}
use Rattle.rows.specs.Rows.{ahead}
use Rattle.rows.proofs.Sums.{sum-none, sum_fits, sum-all, sum_more}
use Rattle.rows.proofs.total_blocks.Goals as goal

pub loop-seen-init : goal.loop-seen-init
loop-seen-init c =
    sum-none c.args.d.now c.requires
    (ap (λ s. ahead s.d.now s.here) c.into_iter-seen-iterator.ensures.into_iter_gives ∙ c.entries_of-seen-items.ensures)

pub count_entry-sums-requires : goal.count_entry-sums-requires
count_entry-sums-requires c = sum_fits c.loop-seen.invariant

pub loop-seen-preserved : goal.loop-seen-preserved
loop-seen-preserved c = sum_more c.loop-seen.invariant c.in-Some.ensures.steps c.count_entry-sums.ensures

pub returns : goal.returns
returns c = sum-all c.loop-seen.invariant c.in-None.ensures.steps.0
