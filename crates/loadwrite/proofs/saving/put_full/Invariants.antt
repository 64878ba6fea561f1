-- `put_full` meets its contract: the loop keeps that the first `i` blocks are written (law `full_more`).
use mathlib.Core.Path.{◌≡◌}
use Prim.Native.Nat.{◌+◌, ◌*◌}
use Rattle.lines.specs.Wrote.{Wrote}
use Rattle.loads.specs.Writing.{full_blocks}
use Rattle.loadwrite.proofs.saving.put_full.Given as goal

abbrev pub invariant-loop-i : goal.invariant-loop-i
invariant-loop-i l = (l.next ≡ l.place + l.i * 135) × Wrote l.initial.out l.place (full_blocks l.words l.address l.i) l.out l.next
