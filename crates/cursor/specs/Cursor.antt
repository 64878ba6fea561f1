-- What the cursor promises: the rows from a cursor on, and a step as the first of them. Nothing is presumed of the words or of the
-- cursor's numbers: a cursor that stands at no slot is at the end, and a link that names no segment is not followed.
use Rattle.std.specs.Prelude.{ℕ, zero, suc, ◌+◌, ◌*◌, ◌-◌, ◌≤◌, Bool, cond, ◌&&◌, not, List, [], ◌∷◌, ◌++◌, length, get_or, drop, leb, Option, Some, None}
use Rattle.meaning.specs.Kinds.{is_end}
use Rattle.meaning.specs.Words.{segments, segment, link_of, slot_words, slot_count, kind, blocks, channel_of, date_of}
use Rattle.meaning.specs.Words.{name_of, slots, upto, Row, rows_in}
use Rattle.cursor.specs.declared.Cursor.{Cursor}
use Rattle.cursor.specs.declared.Seen.{Seen}

-- segments are numbered from 1
unfoldable pub is_segment : List ℕ → ℕ → Bool
is_segment d s = leb 1 s && leb s (segments d)

-- a cursor at a slot of a segment, or directly past its last one; and no block is above 65,535
unfoldable pub inside : List ℕ → Cursor → Bool
inside d c =
    is_segment d c.seg
    && leb 1 c.slot
    && leb c.slot (slot_count (slot_words d) + 1)
    && leb c.first 65535

-- the same as numbers
pub record AtEntry (d : List ℕ) (c : Cursor) : Type 0 where
  pub low : 1 ≤ c.seg
  pub high : 512 * c.seg ≤ length d
  pub some : 1 ≤ c.slot
  pub most : c.slot ≤ slot_count (slot_words d) + 1
  pub small : c.first ≤ 65535

-- the word of its segment where slot k begins, of slots of w words
abbrev pub slot_place : ℕ → ℕ → ℕ
slot_place w k = 5 + (k - 1) * w

-- slot k of the segment whose words are g
abbrev pub slot_in : ℕ → List ℕ → ℕ → List ℕ
slot_in w g k = get_or (slots w g) (k - 1) []

-- an entry stands there
unfoldable pub is_entry : ℕ → List ℕ → ℕ → Bool
is_entry w g k = leb k (slot_count w) && not (is_end (kind (slot_in w g k)))

-- the row of the cursor's slot, where its segment has the words g and begins at word b
unfoldable pub row_in : ℕ → List ℕ → ℕ → Cursor → Row
row_in w g b c = record {
  seg = c.seg;
  slot = c.slot;
  at = b + slot_place w c.slot;
  first = c.first;
  entry = slot_in w g c.slot;
}

-- the same in the whole directory
abbrev pub on_entry : List ℕ → Cursor → Bool
on_entry d c = is_entry (slot_words d) (segment d c.seg) c.slot

abbrev pub row_here : List ℕ → Cursor → Row
row_here d c = row_in (slot_words d) (segment d c.seg) (512 * (c.seg - 1)) c

-- the cursor at the first slot of segment s
unfoldable pub first_slot : List ℕ → ℕ → Cursor
first_slot d s = record { seg = s; slot = 1; first = get_or d (512 * (s - 1) + 4) 0 }

-- the entries of the cursor's segment, from its slot on, and their rows
unfoldable pub entries_here : List ℕ → Cursor → List (List ℕ)
entries_here d c = upto (drop (c.slot - 1) (slots (slot_words d) (segment d c.seg)))

unfoldable pub rows_here : List ℕ → Cursor → List Row
rows_here d c = rows_in (slot_words d) c.seg c.slot (row_here d c).at c.first (entries_here d c)

-- the rows from a cursor on, of at most n segments
unfoldable pub rows_from : ℕ → List ℕ → Cursor → List Row
rows_from zero d c = []
rows_from (suc n) d c =
    let s = link_of (segment d c.seg) in
    let r = rows_from n d (first_slot d s) in
    rows_here d c ++ cond (is_segment d s) r []

-- a directory has at most 31 segments
unfoldable pub rows_at : List ℕ → Cursor → List Row
rows_at d c = rows_from 31 d c

-- a row, as code hands it over
abbrev pub seen_of : Row → Seen
seen_of r = record {
  seg = r.seg;
  slot = r.slot;
  at = r.at;
  first = r.first;
  kind = kind r.entry;
  name = name_of r.entry;
  length = blocks r.entry;
  channel = channel_of r.entry;
  date = date_of r.entry;
}

-- the cursor past a row
abbrev pub past : Row → Cursor
past r = record { seg = r.seg; slot = r.slot + 1; first = r.first + blocks r.entry }

-- a step gives a row as its entry, and the cursor past it
abbrev pub seen_past : Row → Seen × Cursor
seen_past r = (seen_of r, past r)

abbrev pub entry_step : Row → Option (Seen × Cursor)
entry_step r = Some (seen_of r, past r)

abbrev pub first_step : List Row → Option (Seen × Cursor)
first_step [] = None
first_step (r ∷ rs) = entry_step r

unfoldable pub step_at : List ℕ → Cursor → Option (Seen × Cursor)
step_at d c = cond (inside d c) (first_step (rows_at d c)) None
