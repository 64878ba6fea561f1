-- `insert_words` meets its contract: its writes are those of `InPlace`, one after the other.
use native.Mathlib.Omega.{arith}
use mathlib.Core.Path.{◌≡◌, sym, ◌∙◌}
use Prim.Native.Nat.{◌+◌, ◌<◌}
use lib.ListN.{length}
use Rattle.render.proofs.InPlace.{added-length, area-fits, long-is, area-size, size, inserted-is}
use Rattle.render.proofs.insert_words.Goals.{After-move_up, After-put_words-area, Start}
use Rattle.render.proofs.insert_words.Goals as goal

-- the writes before the area's length is changed, and the call
abbrev moved_at : After-put_words-area → After-move_up
moved_at c = (goal.at.After-put_words-area c).After-move_up

abbrev call : After-put_words-area → Start
call c = (goal.at.After-put_words-area c).Start

-- then the area's length lies in the segment
area-at : (c : After-put_words-area) → (c.put_words-area.result + 4 < 512) × (length c.put_words-area.new.target ≡ 512)
area-at c =
    let u = (moved_at c).move_up.ensures in
    let v = c.put_gap-start.ensures in
    (area-fits (call c).requires u v c.put_words-area.ensures, long-is (call c).requires u v c.put_words-area.ensures)

pub put_gap-start-requires : goal.put_gap-start-requires
put_gap-start-requires c =
    let i = c.requires in
    (i.wide, i.narrow, omega (arith, i.whole, i.wide, i.slot, i.room, added-length i, c.move_up.ensures.long))

pub put_words-area-requires : goal.put_words-area-requires
put_words-area-requires c =
    let i = c.requires in
    omega (
      arith,
      i.whole,
      i.wide,
      i.slot,
      i.room,
      added-length i,
      c.move_up.ensures.long,
      c.put_gap-start.ensures.long,
      c.put_gap-start.ensures.next,
    )

pub overflow_add-segment : goal.overflow_add-segment
overflow_add-segment c = let a = area-at (goal.at.overflow_add-segment c).After-put_words-area in omega (arith, a.0, a.1)

pub offset_bounds-segment-area : goal.offset_bounds-segment-area
offset_bounds-segment-area c = let a = area-at (goal.at.offset_bounds-segment-area c).After-put_words-area in omega (arith, a.0, a.1)

pub bounds-segment-area : goal.bounds-segment-area
bounds-segment-area c = let a = area-at (goal.at.bounds-segment-area c).After-put_words-area in omega (arith, a.0, a.1)

pub bounds-segment-end : goal.bounds-segment-end
bounds-segment-end c =
    let i = (call (goal.at.bounds-segment-end c).After-put_words-area).requires in
    omega (arith, i.room, area-size i (moved_at (goal.at.bounds-segment-end c).After-put_words-area).move_up.ensures c.put_gap-start.ensures c.put_words-area.ensures)

pub clear_from-requires : goal.clear_from-requires
clear_from-requires c =
    let i = (call (goal.at.clear_from-requires c).After-put_words-area).requires in
    omega (arith, i.room, size i (moved_at (goal.at.clear_from-requires c).After-put_words-area).move_up.ensures c.put_gap-start.ensures c.put_words-area.ensures)

pub shape_of-segment : goal.shape_of-segment
shape_of-segment c =
    let i = (call (goal.at.shape_of-segment c).After-put_words-area).requires in
    c.clear_from.ensures.long
    ∙ size i (moved_at (goal.at.shape_of-segment c).After-put_words-area).move_up.ensures c.put_gap-start.ensures c.put_words-area.ensures
    ∙ sym i.whole

pub returns : goal.returns
returns c =
    inserted-is (call (goal.at.returns c).After-put_words-area).requires (moved_at (goal.at.returns c).After-put_words-area).move_up.ensures c.put_gap-start.ensures c.put_words-area.ensures
    c.clear_from.ensures
