-- `take_block` meets its contract: what is asked of the block follows on its bytes (law `then`).
use Rattle.cases.proofs.Reading.{then}
use Rattle.labelcases.proofs.take_block.Goals as goal

pub returns : goal.returns
returns g c = then _ _ c.in_ok-read_counted.ensures c.mark.ensures
