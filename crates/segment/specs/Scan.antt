-- What the scan of a segment promises: rule 4 of its slots, and the sum of its lengths.
use Rattle.std.specs.Prelude.{ℕ, ◌*◌, ◌≤◌, ◌<◌, ◌≡◌, false, cond, List, length, Option, Some, None}
use Rattle.meaning.specs.Words.{Entry, slot_count, slots, upto, total}
use Rattle.walks.specs.Scan.{scan_bad}
use Rattle.segment.specs.declared.scan.Sum.{Sum}

-- nothing where the slots break rule 4, or else the count of the entries before the marker and the exact sum of their lengths
unfoldable pub scan_of : List Entry → Option Sum
scan_of es = cond (scan_bad false es) None (Some (record { count = length (upto es); blocks = total (upto es) }))

-- the marker takes a slot, so that entries are fewer than slots; and a sum of at most 507 lengths of 16 bits stays small
abbrev pub Bounded : Option Sum → ℕ → Type 0
Bounded None w = Unit {0}
Bounded (Some s) w = (s.count < slot_count w) × (s.blocks ≤ 507 * 65535)

-- the answer r for the segment g with slots of w words
pub record Scanned (r : Option Sum) (w : ℕ) (g : List ℕ) : Type 0 where
  pub is : r ≡ scan_of (slots w g)
  pub bounds : Bounded r w
