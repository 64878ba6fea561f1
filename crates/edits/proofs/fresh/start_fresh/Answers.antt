-- `start_fresh` meets its contract: seven words set among zeros are the words of a fresh start (law `started`).
use Rattle.edits.proofs.Started.{started}
use Rattle.edits.proofs.fresh.start_fresh.Goals as goal

pub returns : goal.returns
returns c =
    let p = c.requires.0 in
    rw c.clear.ensures (started c.args.v c.args.words.now c.args.extra p.whole p.some c.requires.1)
