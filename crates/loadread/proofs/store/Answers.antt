-- `store` meets its contract: each turn leaves what `Storing` says of the stream behind the part (laws `store_goes`, `store_ends`).
use Rattle.loadread.proofs.Known.{store_goes}
use Rattle.loadread.proofs.store.Goals as goal

pub loop-length-preserved : goal.loop-length-preserved
loop-length-preserved c =
    let part = c.head_part-part-in-Some.ensures in
    store_goes c.in-Some.length _ _ c.loop-length.invariant c.in-Some.ensures.0 c.in-Some.ensures.1 c.put_part.ensures part
