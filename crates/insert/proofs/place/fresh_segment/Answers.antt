-- `fresh_segment` meets its contract: a return for the rest as they are, and one for the area among them.
use native.Mathlib.Omega.{arith}
use mathlib.Core.Path.{refl}
use Rattle.insert.proofs.Halving.{rooms, front-room, back-before, back_fits, first_small, fresh_asks, fresh-inserted, fresh-plain}
use Rattle.insert.proofs.place.fresh_segment.Goals as goal

pub overflow_mul-start : goal.overflow_mul-start
overflow_mul-start c =
    let h = c.requires in
    omega (arith, rooms h.0 c.args.count h.1)

pub overflow_add-start : goal.overflow_add-start
overflow_add-start c =
    let h = c.requires in
    omega (arith, rooms h.0 c.args.count h.1)

pub overflow_mul-stop : goal.overflow_mul-stop
overflow_mul-stop c =
    let h = c.requires in
    omega (arith, rooms h.0 c.args.count h.1)

pub overflow_add-stop : goal.overflow_add-stop
overflow_add-stop c =
    let h = c.requires in
    omega (arith, rooms h.0 c.args.count h.1)

pub sum_lengths-requires : goal.sum_lengths-requires
sum_lengths-requires c = let h = c.requires.0 in (h.slot.wide, h.slot.full, front-room h)

pub overflow_add-first : goal.overflow_add-first
overflow_add-first c =
    omega (arith, first_small c.requires.0 c.sum_lengths.result c.sum_lengths.ensures)

pub overflow_cast-header : goal.overflow_cast-header
overflow_cast-header c =
    omega (arith, first_small c.requires.0 c.sum_lengths.result c.sum_lengths.ensures)

pub offset_bounds-segment-start : goal.offset_bounds-segment-start
offset_bounds-segment-start c =
    let h = c.requires in
    omega (arith, rooms h.0 c.args.count h.1)

pub slice_bounds-slots-count : goal.slice_bounds-slots-count
slice_bounds-slots-count c =
    let h = c.requires in
    omega (arith, rooms h.0 c.args.count h.1)

pub slice_bounds-slots-start : goal.slice_bounds-slots-start
slice_bounds-slots-start c =
    let h = c.requires in
    omega (arith, rooms h.0 c.args.count h.1)

pub slice_bounds-slots-end : goal.slice_bounds-slots-end
slice_bounds-slots-end c =
    let h = c.requires in
    omega (arith, rooms h.0 c.args.count h.1)

pub plain_segment-requires : goal.plain_segment-requires
plain_segment-requires c =
    let h = c.requires in
    back_fits h.0 c.args.count h.1

pub returns-then-spot-kept : goal.returns-then-spot-kept
returns-then-spot-kept c =
    let a = c.args in
    let h = c.requires in
    let l = c.sum_lengths in
    fresh-plain h.0 a.count h.1 _ _ a.total a.extra l.result refl l.ensures c.if-spot-kept.true c.plain_segment.ensures

pub overflow_sub-spot : goal.overflow_sub-spot
overflow_sub-spot c =
    let k = back-before c.requires.0 c.if-spot-kept.false in
    omega arith

pub inserted_segment-requires : goal.inserted_segment-requires
inserted_segment-requires c =
    let h = c.requires in
    fresh_asks h.0 c.args.count h.1 c.if-spot-kept.false

pub returns-else-spot-kept : goal.returns-else-spot-kept
returns-else-spot-kept c =
    let a = c.args in
    let h = c.requires in
    let l = c.sum_lengths in
    fresh-inserted h.0 a.count h.1 _ _ a.total a.extra l.result refl l.ensures c.if-spot-kept.false c.inserted_segment.ensures
