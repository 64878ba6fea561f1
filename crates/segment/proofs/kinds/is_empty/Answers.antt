-- `is_empty` meets its contract: the kind is told by its number.
use mathlib.Core.Path.{sym}
use Rattle.segment.proofs.Status.{empty-eqb}
use Rattle.segment.proofs.kinds.is_empty.Goals as goal

pub returns : goal.returns
returns c = sym (empty-eqb _)
