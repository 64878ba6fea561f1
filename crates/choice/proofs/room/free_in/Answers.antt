-- `free_in` meets its contract: with a segment to spare there is room for any cost, and else for what the count leaves.
use Rattle.choice.proofs.Rooms.{spare_free, counted-free}
use Rattle.choice.proofs.room.free_in.Goals as goal

pub returns-then-spare : goal.returns-then-spare
returns-then-spare c = let a = c.args in rw c.if-spare.true (spare_free a.width _)

pub returns-else-spare : goal.returns-else-spare
returns-else-spare c =
    let a = c.args in
    rw (c.if-spare.false, ← c.count_entries.ensures.is) (counted-free _ _ a.width c.free_of.ensures)
