-- `feed_pieces`: each turn reads on from where the one before it ended (law `further`).
use Rattle.cases.proofs.Reading.{still, further}
use Rattle.loadcases.proofs.feeding.feed_pieces.Goals as goal

pub loop-init : goal.loop-init
loop-init g c = still _ _

pub loop-preserved : goal.loop-preserved
loop-preserved g c = further c.loop.invariant c.in_ok-n.ensures.further
