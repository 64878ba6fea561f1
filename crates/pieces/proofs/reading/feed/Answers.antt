-- `feed` meets its contract: each turn leaves what `Feeding` says of the rest of the piece (laws `feed_goes`, `feed_ends`, `feed_decided`).
use Rattle.pieces.proofs.Turns.{feed_goes}
use Rattle.pieces.proofs.reading.feed.Goals as goal

pub loop-rest-preserved : goal.loop-rest-preserved
loop-rest-preserved c =
    let t = c.take_some-taken in
    feed_goes {n = t.result.count} c.loop-rest.invariant t.ensures t.auto.words
