-- `put_part` meets its contract: a block lends on its data (law `block_stored`).
use Rattle.loadread.proofs.Known.{block_stored}
use Rattle.loadread.proofs.put_part.Goals as goal

pub returns-in-Block : goal.returns-in-Block
returns-in-Block c =
    block_stored c.args.part c.in-Block.address c.in-Block.count c.args.rest.now c.args.words.now _ c.in-Block.is c.requires c.put_bytes.ensures
