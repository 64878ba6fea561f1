-- `put` meets its contract: a store is a write of one byte.
use Rattle.lines.proofs.Writes.{one}
use Rattle.loadwrite.proofs.blocks.put.Goals as goal

pub returns : goal.returns
returns c = one c.args.out.now c.args.place c.args.byte c.requires
