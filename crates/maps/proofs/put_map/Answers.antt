-- `put_map` meets its contract: each turn leaves what `Mapping` says of the stream behind the part (laws `map_goes`, `map_ends`).
use native.Mathlib.Omega.{arith}
use Rattle.maps.proofs.Mapping.{map_shown, map_passes, map_room, map_goes, map_ends}
use Rattle.maps.proofs.put_map.Goals as goal

pub put_line-next-requires : goal.put_line-next-requires
put_line-next-requires c =
    let l = c.loop-length.invariant in
    (map_shown l, map_room l c.in-Some.ensures.0)

pub slice_bounds-rest-count : goal.slice_bounds-rest-count
slice_bounds-rest-count c = omega (arith, c.in-Some.ensures.1, map_passes c.loop-length.invariant c.in-Some.ensures.0)

pub slice_bounds-rest-start : goal.slice_bounds-rest-start
slice_bounds-rest-start c = omega (arith, c.in-Some.ensures.1, map_passes c.loop-length.invariant c.in-Some.ensures.0)

pub loop-length-smaller : goal.loop-length-smaller
loop-length-smaller c = omega (arith, c.in-Some.ensures.1, map_passes c.loop-length.invariant c.in-Some.ensures.0)

pub loop-length-preserved : goal.loop-length-preserved
loop-length-preserved c =
    let w = c.put_line-next.ensures in
    map_goes c.in-Some.length _ _ _ c.loop-length.invariant c.in-Some.ensures.0 c.in-Some.ensures.1 w.wrote w.short c.part_of-part-in-Some.ensures

pub returns : goal.returns
returns c = map_ends _ _ c.loop-length.invariant c.in_default.ensures c.put_line.ensures.wrote
