-- `is_segment` meets its contract: its two tests are the definition's.
use Rattle.std.proofs.Common.{arith}
use Rattle.std.proofs.lemmas.Bool.Decides.{nat_tests}
use Rattle.cursor.specs.Cursor.{is_segment}
use Rattle.cursor.proofs.is_segment.Goals as goal

pub returns-then-number-ge1 : goal.returns-then-number-ge1
unfolding is_segment
returns-then-number-ge1 c = grind (arith, nat_tests)

pub returns-else-number-ge1 : goal.returns-else-number-ge1
unfolding is_segment
returns-else-number-ge1 c = grind (arith, nat_tests)
