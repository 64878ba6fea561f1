-- A walk over the entries of a segment with the words g, in slots of w words: where it may begin, and the next free block behind it.
use Rattle.std.specs.Prelude.{ℕ, ◌+◌, ◌≤◌, ◌≡◌, List, length}
use Rattle.meaning.specs.Words.{first_of, slots, upto, total}
use Rattle.squeezed.specs.Squeeze.{free_up_to}

-- what is presumed: a whole segment, whose first entry stands at block b, which the next free block p has not passed; and lengths that end
-- within a volume
pub record Walkable (w : ℕ) (g : List ℕ) (b p : ℕ) : Type 0 where
  pub whole : length g ≡ 512
  pub wide : 7 ≤ w
  pub narrow : w ≤ 23
  pub low : p ≤ b
  pub high : b + total (upto (slots w g)) ≤ 65535

-- the next free block after the segment
abbrev pub next_free : ℕ → ℕ → List ℕ → ℕ
next_free w p g = free_up_to (first_of g) p (upto (slots w g))
