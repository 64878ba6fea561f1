-- `is_permanent` meets its contract: the kind is told by its two numbers, one after the other.
use borrow.Author.Tests.{eq-eqb}
use mathlib.Core.Path.{sym, ◌∙◌}
use Rattle.segment.proofs.Status.{permanent-is, protected-eqb}
use Rattle.segment.proofs.kinds.is_permanent.Goals as goal

pub returns-then-status-eq-PERMANENT : goal.returns-then-status-eq-PERMANENT
returns-then-status-eq-PERMANENT c = eq-eqb _ _ c.if-status-eq-PERMANENT.true ∙ sym (permanent-is _ c.if-status-eq-PERMANENT.true)

pub returns-else-status-eq-PERMANENT : goal.returns-else-status-eq-PERMANENT
returns-else-status-eq-PERMANENT c = sym (protected-eqb _ c.if-status-eq-PERMANENT.false)
