-- `same_bytes` meets its contract: the loop keeps that what is left of the two is the same exactly where the two are (laws of Same).
use Prim.Native.Nat.{◌≤◌}
use mathlib.Core.Path.{◌≡◌}
use lib.ListN.{length, drop}
use Rattle.names.specs.Text.{same_bytes}
use Rattle.names.proofs.text.same_bytes.Given as goal

abbrev pub invariant-loop-i : goal.invariant-loop-i
invariant-loop-i l = (l.i ≤ length l.x) × (length l.x ≡ length l.y) × (same_bytes (drop l.i l.x) (drop l.i l.y) ≡ same_bytes l.x l.y)
