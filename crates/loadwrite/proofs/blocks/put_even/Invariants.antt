-- `put_even` meets its contract: the loop keeps that the bytes of the words so far are written (law `data_two`).
use mathlib.Core.Path.{◌≡◌}
use Prim.Native.Nat.{◌+◌, ◌*◌}
use Rattle.lines.specs.Wrote.{Wrote}
use Rattle.loads.specs.Memory.{bytes_at}
use Rattle.loadwrite.proofs.blocks.put_even.Given as goal

abbrev pub invariant-loop-word : goal.invariant-loop-word
invariant-loop-word l = (l.next ≡ l.place + 2 * l.word-index) × Wrote l.initial.out l.place (bytes_at l.words l.address (2 * l.word-index)) l.out l.next
