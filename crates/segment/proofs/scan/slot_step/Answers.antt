-- `slot_step` meets its contract: what the entry says of its status, name and length is what the words say.
use mathlib.Core.Path.{◌∙◌}
use Rattle.segment.specs.Steps.{slot_step}
use Rattle.segment.proofs.scan.slot_step.Goals as goal

pub returns : goal.returns
unfolding slot_step
returns c = c.step_by.ensures ∙ rw (c.status.ensures, c.name.ensures, c.blocks-2.ensures)
