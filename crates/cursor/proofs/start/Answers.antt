-- `start` meets its contract: where the slice is too short the first block is 0, as of a word that is missing.
use Rattle.std.proofs.Common.{arith}
use Rattle.std.proofs.lemmas.Bool.Decides.{nat_tests}
use Rattle.std.proofs.lemmas.Grind.{common_steps}
use Rattle.cursor.specs.Cursor.{first_slot}
use Rattle.cursor.proofs.start.Goals as goal

pub returns : goal.returns
unfolding first_slot
returns c = grind (arith, nat_tests, common_steps)
