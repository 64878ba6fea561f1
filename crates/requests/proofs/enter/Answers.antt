-- `enter` meets its contract: the record that it hands to `serve` is one of its kind, so `serve` is `enter` there;
-- its signed number comes back from the machine's word as it was.
use mir.Syntax.{w32}
use mir.ValLaws.{to_z-of_z}
use Rattle.meaning.specs.Batch.{serve}
use Rattle.requests.proofs.enter.Goals as goal

pub returns : goal.returns
unfolding serve
returns c =
    rw (to_z-of_z w32 c.args.size c.ranges.size) at c.serve.ensures
