-- What is read from the head, of either version; and the bounds that a word read from the file comes with.
use Rattle.std.specs.Prelude.{ℕ, ◌+◌, ◌-◌, ◌%◌, ◌≤◌, ◌≡◌, Bool, ◌&&◌, List, length, take, eqb, leb}
use Rattle.names.specs.Text.{same_bytes}
use Rattle.meaning.specs.Listing.{mark, word_at, volume_in}

-- a good head of a version whose directory begins at such a byte
unfoldable pub good_head_of : ℕ → ℕ → List ℕ → Bool
good_head_of version first file =
    leb first (length file)
    && leb (length file) (first + 31744)
    && same_bytes (take 3 file) mark
    && eqb (word_at file 3) version
    && eqb ((length file - first) % 2) 0

-- a word read from bytes
pub record WordRead (bs : List ℕ) (k r : ℕ) : Type 0 where
  pub is : r ≡ word_at bs k
  pub small : r ≤ 65535

pub record VolumeRead (file : List ℕ) (r : ℕ) : Type 0 where
  pub is : r ≡ volume_in file
  pub small : r ≤ 65535
