-- What a write into lent room leaves: the bytes from its place on, and every other byte as it was.
use Rattle.std.specs.Prelude.{ℕ, ◌+◌, ◌≤◌, ◌≡◌, List, ◌++◌, length, take, drop}

-- the bytes were written into `before` from the place p on, which made it `after`; `next` is the place after them
pub record Wrote (before : List ℕ) (p : ℕ) (bytes after : List ℕ) (next : ℕ) : Type 0 where
  pub is : after ≡ take p before ++ bytes ++ drop (p + length bytes) before
  pub ends : next ≡ p + length bytes
  pub inside : next ≤ length before
  pub long : length after ≡ length before

-- the same, of not more than a number of bytes
pub record WroteAtMost (most : ℕ) (before : List ℕ) (p : ℕ) (bytes after : List ℕ) (next : ℕ) : Type 0 where
  pub wrote : Wrote before p bytes after next
  pub short : next ≤ p + most
