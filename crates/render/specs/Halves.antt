-- The entries of a segment, halved.
use Rattle.std.specs.Prelude.{ℕ, ◌+◌, ◌/◌, ◌≤◌, ◌≡◌, List, length}
use Rattle.meaning.specs.Words.{Entry}
use Rattle.meaning.specs.Enter.{kept}

-- a split keeps the first h of the entries es: half of them, or one more
pub record KeptOf (h : ℕ) (es : List Entry) : Type 0 where
  pub is : h ≡ kept es
  pub low : length es / 2 ≤ h
  pub high : h ≤ length es / 2 + 1
  pub within : h ≤ length es
