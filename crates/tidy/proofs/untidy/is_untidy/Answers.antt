-- `is_untidy` meets its contract: what is met among the entries still ahead is what is met among all.
use mathlib.Core.Path.{sym, ◌∙◌}
use Rattle.tidy.proofs.Looking.{starts, look_over, look_found, look_on}
use Rattle.tidy.proofs.untidy.is_untidy.Goals as goal

pub loop-entry-init : goal.loop-entry-init
loop-entry-init c =
    rw (c.into_iter-entry-iterator.ensures.into_iter_gives, c.entries_of-entry-items.ensures.left) (starts _)

pub returns-then-is_changed : goal.returns-then-is_changed
returns-then-is_changed c =
    look_found c.loop-entry.invariant c.in-Some.entry.words.now _ c.in-Some.ensures.steps (sym c.is_changed.ensures ∙ c.if-is_changed.true)

pub loop-entry-preserved : goal.loop-entry-preserved
loop-entry-preserved c =
    rw c.status-before.ensures
    (look_on c.loop-entry.invariant c.in-Some.entry.words.now _ c.in-Some.ensures.steps (sym c.is_changed.ensures ∙ c.if-is_changed.false))

pub returns : goal.returns
returns c = look_over c.loop-entry.invariant c.in-None.ensures.steps.0
