-- The entries of a segment as the code walks over them.
use Rattle.std.specs.Prelude.{ℕ, ◌/◌, List, length}
use Rattle.meaning.specs.Words.{Entry, chunks, upto}

-- the entries that are left, where the words l are: the slots of w words before the marker
unfoldable pub ahead : ℕ → List ℕ → List Entry
ahead w l = upto (chunks (length l / w) w l)
