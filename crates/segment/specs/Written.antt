-- Words written into a list.
use Rattle.std.specs.Prelude.{ℕ, ◌+◌, ◌≡◌, List, ◌++◌, length, take, drop}

-- the words l were written into b from q on, which made it a, and z is the place after them
pub record Written (b : List ℕ) (q : ℕ) (l a : List ℕ) (z : ℕ) : Type 0 where
  pub words : a ≡ take q b ++ l ++ drop (q + length l) b
  pub next : z ≡ q + length l
  pub long : length a ≡ length b
