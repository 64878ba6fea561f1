-- `put_rows` meets its contract, by the laws of Shows.
use mathlib.Core.Path.{ap, ◌∙◌}
use Rattle.rows.specs.Rows.{ahead}
use Rattle.rows.proofs.Shows.{show_none, shown, show_all, show_more}
use Rattle.rows.proofs.put_rows.Goals as goal

pub loop-seen-init : goal.loop-seen-init
loop-seen-init c =
    show_none c.args.d.now c.args.out.now c.args.at c.requires.0 c.requires.1
    (ap (λ s. ahead s.d.now s.here) c.into_iter-seen-iterator.ensures.into_iter_gives ∙ c.entries_of-seen-items.ensures)

pub put_row-next-requires : goal.put_row-next-requires
put_row-next-requires c = shown c.loop-seen.invariant c.in-Some.ensures.steps c.requires.1

pub loop-seen-preserved : goal.loop-seen-preserved
loop-seen-preserved c = show_more c.loop-seen.invariant c.in-Some.ensures.steps c.put_row-next.ensures

pub returns : goal.returns
returns c = show_all c.loop-seen.invariant c.in-None.ensures.steps.0
