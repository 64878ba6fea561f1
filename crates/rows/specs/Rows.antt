-- What the walks over the entries ask and promise.
use Rattle.std.specs.Prelude.{ℕ, ◌+◌, ◌≤◌, ◌≡◌, cond, List, map}
use Rattle.meaning.specs.declared.Kind.{Kind}
use Rattle.meaning.specs.Kinds.{is_tentative, is_empty, is_permanent}
use Rattle.meaning.specs.Words.{Entry}
use Rattle.meaning.specs.Sound.{fault}
use Rattle.meaning.specs.Listing.{blocks_of}
use Rattle.cursor.specs.Cursor.{rows_at, seen_of}
use Rattle.cursor.specs.declared.Cursor.{Cursor}
use Rattle.cursor.specs.declared.Seen.{Seen}
use Rattle.cursor.proofs.Walking.{On}
use Rattle.lines.specs.Bounds.{Spelled}
use Rattle.lines.specs.Pieces.{row_by}
use Rattle.rows.specs.declared.Totals.{Totals}

-- a directory that is sound for some V
pub record IsSound (d : List ℕ) : Type 0 where
  pub v : ℕ
  pub sound : fault v d ≡ 0

-- an entry whose row can be shown: its name spells, and its first block is one of a volume
pub record Shown (seen : Seen) : Type 0 where
  pub spelled : Spelled seen.kind seen.name.first seen.name.second seen.name.extension
  pub small : seen.first ≤ 65535

-- its row
abbrev pub seen_text : Seen → List ℕ
seen_text s =
    row_by s.kind s.name.first s.name.second s.name.extension s.first s.length s.date

-- totals with an entry more, of a kind and a length
pub record TotalsAfter (before : Totals) (kind : Kind) (blocks : ℕ) (after : Totals) : Type 0 where
  pub files : after.files ≡ before.files + cond (is_permanent kind) blocks 0
  pub opened : after.opened ≡ before.opened + cond (is_tentative kind) blocks 0
  pub free : after.free ≡ before.free + cond (is_empty kind) blocks 0

-- the totals of entries, which fit a word
pub record TotalsOf (es : List Entry) (r : Totals) : Type 0 where
  pub files : r.files ≡ blocks_of is_permanent es
  pub opened : r.opened ≡ blocks_of is_tentative es
  pub free : r.free ≡ blocks_of is_empty es
  pub few_files : r.files ≤ 65535
  pub few_opened : r.opened ≤ 65535
  pub few_free : r.free ≤ 65535

-- a cursor on the way through a directory that is sound for some V
pub record Underway (d : List ℕ) (c : Cursor) : Type 0 where
  pub v : ℕ
  pub on : On v d c

-- the entries ahead of a cursor, as code hands them over
abbrev pub ahead : List ℕ → Cursor → List Seen
ahead d c = map seen_of (rows_at d c)
