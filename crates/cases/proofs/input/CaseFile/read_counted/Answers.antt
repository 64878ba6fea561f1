-- `read_counted` meets its contract: the last byte follows on the others (law `then_once`).
use Rattle.cases.proofs.Reading.{once, then_once}
use Rattle.cases.proofs.input.CaseFile.read_counted.Goals as goal

pub returns : goal.returns
returns g c = then_once _ _ _ (once c.in_ok-read.ensures) c.read-2.ensures
