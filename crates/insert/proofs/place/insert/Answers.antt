-- `insert` meets its contract: the part that is lent is the segment of the area, and what is made of it stands in its place.
use mathlib.Core.Path.{sym}
use Rattle.insert.proofs.Placing.{new-length, slot_of, count_of, room_of, unsplit-is}
use Rattle.insert.proofs.place.insert.Goals as goal

pub slice_bounds-insert_whole-end-2 : goal.slice_bounds-insert_whole-end-2
slice_bounds-insert_whole-end-2 c =
    let a = c.args in
    let h = c.requires in
    let w = c.slot_words-width.ensures in
    let e = c.entry_words-entry.ensures in
    sym (new-length a.new h.0 w e)

pub insert_whole-requires : goal.insert_whole-requires
insert_whole-requires c =
    let a = c.args in
    let h = c.requires in
    let w = c.slot_words-width.ensures in
    let e = c.entry_words-entry.ensures in (
      slot_of a.new h.0 w e h.1,
      count_of a.new h.0 w e h.1 a.count h.2,
      h.1.costs,
      h.1.cheap,
      room_of a.new h.0 w e h.1 a.count h.3,
    )

pub returns : goal.returns
returns c =
    let a = c.args in
    let h = c.requires in
    let w = c.slot_words-width.ensures in
    let e = c.entry_words-entry.ensures in
    unsplit-is a.new h.0 w e h.1 _ c.insert_whole.ensures
