-- `mark` meets its contract: two reads follow on each other (law `further`).
use Rattle.cases.proofs.Reading.{once, further}
use Rattle.labelcases.proofs.mark.Goals as goal

pub returns : goal.returns
returns g c = further (once c.in_ok-read.ensures) (once c.in_ok-read-2.ensures)
