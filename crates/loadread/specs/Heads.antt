-- What the storing pass supposes of a stream that the checking pass has accepted: a part is known by its header, and its data are in the stream and
-- have room in the memory.
use Rattle.std.specs.Prelude.{ℕ, ◌+◌, ◌*◌, ◌≤◌, ◌≡◌, cond, List, [], ◌∷◌, length, get_or, eqb}
use Rattle.loads.specs.Blocks.{count_of, data_count, right_block}
use Rattle.loads.specs.declared.Part.{Part}
use Rattle.loads.specs.declared.Part.TheVariants.{Gap, Block, End, Refused}

-- what a stream goes on with, where no block of it is refused
unfoldable pub head_part : List ℕ → Part
head_part [] = Refused 30
head_part (b ∷ s) = cond (eqb b 0) Gap (right_block (b ∷ s))

-- there is a byte, and where it begins a block the header is whole
pub record HasHead (s : List ℕ) : Type 0 where
  pub first : 1 ≤ length s
  pub header : (get_or s 0 0 ≡ 0 → ⊥) → (6 ≤ length s) × (6 ≤ count_of s)

-- the data of a part
abbrev pub Storable : Part → List ℕ → List ℕ → Type 0
Storable Gap s m = 0 ≤ length m
Storable (Block a n) s m = (n ≡ data_count s) × (n + 6 ≤ length s) × (a + n ≤ 2 * length m)
Storable (End t) s m = 0 ≤ length m
Storable (Refused k) s m = 0 ≤ length m
