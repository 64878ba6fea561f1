-- `check` meets its contract: each turn leaves what `Checking` says of the stream behind the part (laws `check_goes`, `check_ends`).
use Rattle.loadread.proofs.Known.{check_goes}
use Rattle.loadread.proofs.check.Goals as goal

pub loop-length-preserved : goal.loop-length-preserved
loop-length-preserved c =
    check_goes c.in-Some.length _ c.loop-length.invariant c.in-Some.ensures.0 c.in-Some.ensures.1 c.part_of-part-in-Some.ensures
