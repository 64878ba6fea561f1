-- `is_tentative` meets its contract: the kind is told by its number.
use mathlib.Core.Path.{sym}
use Rattle.segment.proofs.Status.{tentative-eqb}
use Rattle.segment.proofs.kinds.is_tentative.Goals as goal

pub returns : goal.returns
returns c = sym (tentative-eqb _)
