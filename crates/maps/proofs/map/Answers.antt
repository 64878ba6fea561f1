-- `map` meets its contract: the room decides (laws `map_refused`, `map_made`).
use mathlib.Core.Path.{sym, ◌∙◌}
use Rattle.maps.proofs.Mapping.{map_refused, map_made}
use Rattle.maps.proofs.map.Goals as goal

pub returns-then-not-has_room : goal.returns-then-not-has_room
returns-then-not-has_room c =
    let a = c.args in
    map_refused a.stream.now a.out.now _ (sym c.has_room.ensures ∙ c.if-not-has_room.true) c.refused.ensures

pub returns : goal.returns
returns c =
    let a = c.args in
    let room = sym c.has_room.ensures ∙ c.if-not-has_room.false in
    map_made a.stream.now a.out.now _ _ room c.put_map-count.ensures
