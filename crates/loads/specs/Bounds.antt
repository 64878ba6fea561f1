-- What a routine promises besides its equation, where a caller needs it.
use Rattle.std.specs.Prelude.{ℕ, ◌*◌, ◌≤◌, ◌≡◌, List, length}
use Rattle.loads.specs.Memory.{limit}

-- n is how many bytes of the memory m a load file can have, all of which m has
pub record MemorySize (n : ℕ) (m : List ℕ) : Type 0 where
  pub is : n ≡ limit m
  pub within : n ≤ 2 * length m
  pub small : n ≤ 65536
