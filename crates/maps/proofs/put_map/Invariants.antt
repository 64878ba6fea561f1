-- `put_map` meets its contract: each turn leaves what `Mapping` says of the stream behind the part (laws `map_goes`, `map_ends`).
use lib.ListN.{length}
use Rattle.maps.proofs.Mapping.{Mapping}
use Rattle.maps.proofs.put_map.Given as goal

abbrev pub invariant-loop-length : goal.invariant-loop-length
invariant-loop-length l = Mapping l.stream l.initial.out l.out l.part l.rest l.next

abbrev pub decreases-loop-length : goal.decreases-loop-length
decreases-loop-length l = length l.rest
