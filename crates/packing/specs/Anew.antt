-- A segment of the new directory, from the words g that it has: the slots are of w words, p is the next free block, and so many segments are
-- left, this one included.
use Rattle.std.specs.Prelude.{ℕ, ◌+◌, ◌≤◌, ◌<◌, ◌≡◌, cond, List, ◌++◌, length, take, set, eqb}
use Rattle.meaning.specs.Words.{Entry, first_of, slot_count, slots, upto, total}
use Rattle.meaning.specs.Requests.{render}
use Rattle.squeezed.specs.Squeeze.{left_over, packed_entries}
use Rattle.tally.specs.Walks.{next_free, Walkable}
use Rattle.packing.specs.Packs.{list_words}

-- what is left over stands last in the last segment, up to V
abbrev pub last_block : ℕ → ℕ → ℕ → ℕ
last_block left q v = cond (eqb left 1) v q

unfoldable pub new_entries : ℕ → ℕ → ℕ → ℕ → List ℕ → List Entry
new_entries v w left p g =
    packed_entries w (first_of g) p (upto (slots w g)) ++ left_over w (next_free w p g) (last_block left (next_free w p g) v)

-- the words of the segment's moves
abbrev pub moves_in : ℕ → ℕ → List ℕ → List ℕ
moves_in w p g = list_words (first_of g) p (upto (slots w g))

-- what is presumed: the segment's blocks lie in the volume, and the new entries and a marker in the segment
pub record Packable (v w left p : ℕ) (g : List ℕ) : Type 0 where
  pub walk : Walkable w g (first_of g) p
  pub high : first_of g + total (upto (slots w g)) ≤ v
  pub small : v ≤ 65535
  pub fits : length (new_entries v w left p g) < slot_count w

-- what the words become, and the answer
pub record PackedTo (v w left p : ℕ) (g after : List ℕ) (r : ℕ) : Type 0 where
  pub words : after ≡ render (set (take 5 g) 4 p) (new_entries v w left p g)
  pub free : r ≡ next_free w p g
