-- `half_position` meets its contract: its test is the meaning's, of which half has the area.
use borrow.Author.Tests.{lt-ltb, le-ltb}
use Rattle.insert.specs.Spots.{half_at}
use Rattle.insert.proofs.place.half_position.Goals as goal

pub returns-then-spot-kept : goal.returns-then-spot-kept
unfolding half_at
returns-then-spot-kept c = rw (lt-ltb _ _ c.if-spot-kept.true) c.new_after.ensures

pub returns-else-spot-kept : goal.returns-else-spot-kept
unfolding half_at
returns-else-spot-kept c = rw (le-ltb _ _ c.if-spot-kept.false) c.new_after-else-spot-kept.ensures
