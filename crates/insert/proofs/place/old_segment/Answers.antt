-- `old_segment` meets its contract: a return for the area among the entries that are kept, and one for the entries as they are.
use native.Mathlib.Omega.{arith}
use mathlib.Core.Path.{ap}
use mathlib.Core.List.{List}
use Prim.Native.Nat.{ℕ}
use lib.ListN.{set}
use Rattle.insert.proofs.Halving.{front-room, front_fits, old_asks, old-inserted, old-plain}
use Rattle.insert.proofs.place.old_segment.Goals as goal

pub overflow_mul-stop : goal.overflow_mul-stop
overflow_mul-stop c = omega (arith, front-room c.requires)

pub overflow_add-stop : goal.overflow_add-stop
overflow_add-stop c = omega (arith, front-room c.requires)

pub slice_bounds-slots-end : goal.slice_bounds-slots-end
slice_bounds-slots-end c =
    omega (arith, front-room c.requires)

pub inserted_segment-requires : goal.inserted_segment-requires
inserted_segment-requires c = old_asks c.requires c.if-spot-kept.true

pub returns-then-spot-kept : goal.returns-then-spot-kept
returns-then-spot-kept c =
    let a = c.args in
    let e = ap (λ (r : List ℕ). set r 1 a.next) c.copy_from_slice.ensures.after in
    old-inserted c.requires _ _ a.next e c.if-spot-kept.true c.inserted_segment.ensures

pub plain_segment-requires : goal.plain_segment-requires
plain_segment-requires c = front_fits c.requires

pub returns-else-spot-kept : goal.returns-else-spot-kept
returns-else-spot-kept c =
    let a = c.args in
    let e = ap (λ (r : List ℕ). set r 1 a.next) c.copy_from_slice.ensures.after in
    old-plain c.requires _ _ a.next e c.if-spot-kept.false c.plain_segment.ensures
