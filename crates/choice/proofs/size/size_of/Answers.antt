-- `size_of` meets its contract: the word of -1 asks for the longest, and of any other number it is asked whether it is a length.
use Rattle.choice.proofs.Sizes.{longest-asked, default-asked, exact-asked, wrong-asked}
use Rattle.choice.proofs.size.size_of.Goals as goal

pub returns-then-size-eqminus1 : goal.returns-then-size-eqminus1
returns-then-size-eqminus1 c = longest-asked c.args.size c.ranges.size c.if-size-eqminus1.true

pub returns-in-Ok-eq0 : goal.returns-in-Ok-eq0
returns-in-Ok-eq0 c = default-asked c.args.size c.ranges.size _ c.in-Ok-eq0.ensures c.in-Ok-eq0.field-0-test

pub returns-in-Ok : goal.returns-in-Ok
returns-in-Ok c = exact-asked c.args.size c.ranges.size _ c.in-Ok.ensures c.in-Ok.blocks-test.1

pub returns-in-Err : goal.returns-in-Err
returns-in-Err c = wrong-asked c.args.size c.ranges.size c.if-size-eqminus1.false c.in-Err.ensures
