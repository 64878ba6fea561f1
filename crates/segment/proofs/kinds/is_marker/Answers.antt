-- `is_marker` meets its contract: the kind is told by its number.
use mathlib.Core.Path.{sym}
use Rattle.segment.proofs.Status.{end-eqb}
use Rattle.segment.proofs.kinds.is_marker.Goals as goal

pub returns : goal.returns
returns c = sym (end-eqb _)
