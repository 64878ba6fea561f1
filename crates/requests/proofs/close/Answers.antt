-- `close` meets its contract: the record that it hands to `serve` is one of its kind, so `serve` is `close` there;
-- its signed number comes back from the machine's word as it was.
use mir.Syntax.{w32}
use mir.ValLaws.{to_z-of_z}
use Rattle.meaning.specs.Batch.{serve}
use Rattle.requests.proofs.close.Goals as goal

pub returns : goal.returns
unfolding serve
returns c =
    rw (to_z-of_z w32 c.args.final_length c.ranges.final_length) at c.serve.ensures
