-- `finish` meets its contract: the run is written, and the marker has room after it (`marked`).
use Rattle.tidy.specs.OpenRun.{run_of}
use Rattle.tidy.proofs.Runs.{marked}
use Rattle.tidy.proofs.tidy.finish.Goals as goal

pub returns : goal.returns
returns c = marked c.args.out.now _ c.args.place _ (run_of c.args.run) c.requires c.flush-end.ensures
