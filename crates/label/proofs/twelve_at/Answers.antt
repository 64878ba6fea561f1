-- `twelve_at` meets its contract: the whole array is copied over (law `copied-out`).
use Rattle.label.proofs.Labels.{copied-out}
use Rattle.label.proofs.twelve_at.Goals as goal

pub returns : goal.returns
returns c =
    copied-out c.args.block.now c.args.at c.requires c.copy_from_slice.ensures.after
