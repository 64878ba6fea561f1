-- `take_pieces` meets its contract: its reads follow on each other (law `further`).
use Rattle.cases.proofs.Reading.{once, further}
use Rattle.loadcases.proofs.feeding.take_pieces.Goals as goal

pub returns : goal.returns
returns g c = further (further (once c.in_ok-read.ensures) c.in_ok-reader.ensures) (once c.in_ok-read-2.ensures)
