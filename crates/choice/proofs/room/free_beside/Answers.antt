-- `free_beside` meets its contract, as `free_in` does.
use Rattle.choice.proofs.Rooms.{spare_free, counted-free}
use Rattle.choice.proofs.room.free_beside.Goals as goal

pub returns-then-spare : goal.returns-then-spare
returns-then-spare c = let a = c.args in rw c.if-spare.true (spare_free a.width a.count)

pub returns-else-spare : goal.returns-else-spare
returns-else-spare c = let a = c.args in rw c.if-spare.false (counted-free _ a.count a.width c.free_of.ensures)
