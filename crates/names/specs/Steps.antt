-- What the inner routines promise; no entry routine's contract speaks of these.
use Rattle.std.specs.Prelude.{ℕ, ◌<◌, ◌≡◌}
use Rattle.names.specs.Radix.{code_of}

-- a byte's code, with the bound that a sum of codes needs
pub record Coded (b r : ℕ) : Type 0 where
  pub is : r ≡ code_of b
  pub small : r < 40
