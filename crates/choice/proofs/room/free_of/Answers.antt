-- `free_of` meets its contract: what is left of C is free.
use Rattle.choice.proofs.Rooms.{left-free}
use Rattle.choice.proofs.room.free_of.Goals as goal

pub returns : goal.returns
returns c = let a = c.args in rw c.saturating_sub.ensures (left-free a.count a.width)
