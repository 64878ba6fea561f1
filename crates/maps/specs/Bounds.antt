-- What a part that is shown is known to have, and how long its line can be.
use Rattle.std.specs.Prelude.{ℕ, ◌+◌, ◌≤◌}
use Rattle.loads.specs.declared.Part.{Part}
use Rattle.loads.specs.declared.Part.TheVariants.{Gap, Block, End, Refused}

-- a data block has data, all below 65,536
abbrev pub Mappable : Part → Type 0
Mappable Gap = 0 ≤ 0
Mappable (Block a n) = (1 ≤ n) × (a + n ≤ 65536)
Mappable (End t) = 0 ≤ t
Mappable (Refused k) = 0 ≤ k

abbrev pub most_of : Part → ℕ
most_of Gap = 0
most_of (Block a n) = 20
most_of (End t) = 16
most_of (Refused k) = 14
