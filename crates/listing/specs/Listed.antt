-- What the entry routine promises of lent room: the listing of the file from the first byte on, its length as the answer, and every
-- other byte as it was.
use Rattle.std.specs.Prelude.{ℕ, ◌≡◌, List, ◌++◌, length, drop}
use Rattle.listing.specs.HeadFiles.{listing_of}

pub record Listed (file before after : List ℕ) (r : ℕ) : Type 0 where
  pub long : r ≡ length (listing_of file)
  pub text : after ≡ listing_of file ++ drop (length (listing_of file)) before
