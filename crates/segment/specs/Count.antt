-- The entries of a segment, counted.
use Rattle.std.specs.Prelude.{ℕ, ◌+◌, ◌*◌, ◌≤◌, ◌≡◌, List, length}
use Rattle.meaning.specs.Words.{slot_count, slots, upto}

-- m entries stand before the marker of the segment g, in slots of w words; they are no more than the slots, which lie in the segment
pub record Counted (m w : ℕ) (g : List ℕ) : Type 0 where
  pub is : m ≡ length (upto (slots w g))
  pub few : m ≤ slot_count w
  pub small : m ≤ 507
  pub room : 5 + m * w ≤ 512
