-- `insert_whole` meets its contract: the entries are one part of the segment's words, and the part has room.
use native.Mathlib.Omega.{arith}
use Rattle.insert.proofs.Halving.{counted_room, whole_asks, whole_is}
use Rattle.insert.proofs.place.insert_whole.Goals as goal

pub overflow_mul-stop : goal.overflow_mul-stop
overflow_mul-stop c = let h = c.requires in omega (arith, counted_room h.0 c.args.count h.1)

pub overflow_add-stop : goal.overflow_add-stop
overflow_add-stop c = let h = c.requires in omega (arith, counted_room h.0 c.args.count h.1)

pub insert_words-requires : goal.insert_words-requires
insert_words-requires c =
    let h = c.requires in whole_asks h.0 c.args.count h.1 h.2 h.3 h.4

pub returns : goal.returns
returns c =
    let h = c.requires in whole_is h.0 c.args.count _ h.1 c.insert_words.ensures
