-- `take_stream` meets its contract: the pieces follow on the stream's bytes (law `then`).
use Rattle.cases.proofs.Reading.{then}
use Rattle.loadcases.proofs.take_stream.Goals as goal

pub returns : goal.returns
returns g c = then _ _ c.in_ok-read_counted.ensures c.take_pieces.ensures
