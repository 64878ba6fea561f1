-- The room that slots take in a segment: how many there are at most, and that they lie within its words. Assumes nothing.
use Prim.Native.Nat.{ℕ, ◌+◌, ◌*◌, ◌≤◌}
use mathlib.Core.List.{List}
use native.Mathlib.Nat.{mul-le-mul_right, div-mul-le_self, div-le_self, le-div_iff_mul-le}
use native.Mathlib.Omega.{arith}
use lib.ListN.{take, drop}
use Rattle.meaning.specs.Words.{Entry, slot_count}

-- the slot of w words at word p of a segment's words g
abbrev pub slot_at : List ℕ → ℕ → ℕ → Entry
slot_at g w p = take w (drop p g)

-- slots that a segment has lie in it
pub slots-room : (m w : ℕ) → m ≤ slot_count w → 5 + m * w ≤ 512
slots-room m w h = omega (arith, mul-le-mul_right w h, div-mul-le_self 507 w)

-- where the walk begins
pub first-room : (w : ℕ) → 5 + slot_count w * w ≤ 512
first-room w = slots-room (slot_count w) w (omega arith)

pub few-slots : (w : ℕ) → slot_count w ≤ 507
few-slots w = div-le_self 507 w

-- a segment has a slot for the marker
pub some-slot : (w : ℕ) → 7 ≤ w → w ≤ 23 → 1 ≤ slot_count w
some-slot w h k = (le-div_iff_mul-le {k = w} {x = 1} {y = 507} (omega arith)).1 (omega arith)
