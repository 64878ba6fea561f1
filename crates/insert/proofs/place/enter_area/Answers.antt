-- `enter_area` meets its contract: the test of the slots is the meaning's, so each arm returns what the meaning asks.
use native.Mathlib.Omega.{arith}
use native.Mathlib.Nat.{div-le_self}
use Rattle.insert.proofs.Placing.{count-is, fits_in, splittable, entered_whole, entered_split, spot-small}
use Rattle.insert.proofs.place.enter_area.Goals as goal

pub overflow_add-count : goal.overflow_add-count
overflow_add-count c =
    omega (arith, c.requires.chosen.cheap, c.count_entries-count.ensures.few, div-le_self 507 c.slot_words-width.result)

pub insert-requires : goal.insert-requires
insert-requires c =
    let h = c.requires in
    let w = c.slot_words-width.ensures in
    let k = c.count_entries-count.ensures in
    (h.chained, h.chosen, count-is h w k, fits_in h w k c.if-count-spot.true)

pub new_after-requires : goal.new_after-requires
new_after-requires c =
    let l = spot-small c.args.directory.now c.args.spot c.args.new.length c.requires.chained c.requires.chosen in
    (l.0, l.2)

pub returns-then-count-spot : goal.returns-then-count-spot
returns-then-count-spot c =
    let h = c.requires in
    let w = c.slot_words-width.ensures in
    let k = c.count_entries-count.ensures in
    entered_whole h w k _ _ _ c.if-count-spot.true c.new_after.ensures c.insert.ensures

pub split_and_insert-requires : goal.split_and_insert-requires
split_and_insert-requires c =
    let h = c.requires in
    let w = c.slot_words-width.ensures in
    let k = c.count_entries-count.ensures in
    (h.chained, h.chosen, count-is h w k, splittable h w k c.if-count-spot.false)

pub returns : goal.returns
returns c =
    let h = c.requires in
    let w = c.slot_words-width.ensures in
    let k = c.count_entries-count.ensures in
    entered_split h w k _ _ _ c.if-count-spot.false c.split_and_insert.ensures
