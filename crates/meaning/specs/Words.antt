-- The words of a directory (document 01, "The volume as we handle it" and "One segment"): segments, slots, entries, the chain, rows.
-- A directory is the list of its words.
--
-- Three words of antt that a reader meets in all of specs/. `let r = .. in` names what a recursion gives before a test picks one of two
-- ways. `unfoldable` marks a definition that a proof opens only where it says so, `abbrev` one that is open everywhere: both mean just
-- what their equations say.
use Rattle.std.specs.Prelude.{ℕ, zero, suc, ◌+◌, ◌*◌, ◌-◌, ◌/◌, Bool, cond, ◌&&◌, List, [], ◌∷◌, ◌++◌, length, get_or, take, drop, eqb}
use Rattle.meaning.specs.declared.Kind.{Kind}
use Rattle.meaning.specs.declared.Name.{Name}
use Rattle.meaning.specs.Kinds.{protected_status, kind_of, is_end}

-- N: how many segments of 512 words the directory has
abbrev pub segments : List ℕ → ℕ
segments d = length d / 512

-- the first block behind the directory, which begins at block 6 and takes two blocks a segment
abbrev pub first_data : List ℕ → ℕ
first_data d = 6 + 2 * segments d

-- segment k, counted from 1: a part of the slice
unfoldable pub segment : List ℕ → ℕ → List ℕ
segment d k = take 512 (drop (512 * (k - 1)) d)

-- The five words of a segment's header: 0 is N; 1 the link, which is the number of the segment that follows, or 0; 2 is H; 3 the bytes
-- that each entry has beyond its seven words; 4 the block where the segment's first entry begins
abbrev pub total_of : List ℕ → ℕ
total_of g = get_or g 0 0

abbrev pub link_of : List ℕ → ℕ
link_of g = get_or g 1 0

abbrev pub extra_bytes_of : List ℕ → ℕ
extra_bytes_of g = get_or g 3 0

abbrev pub first_of : List ℕ → ℕ
first_of g = get_or g 4 0

-- H, how many segments are in use: segment 1 alone says it
abbrev pub highest : List ℕ → ℕ
highest d = get_or d 2 0

-- E, the extra bytes as words
abbrev pub extra_words : List ℕ → ℕ
extra_words d = extra_bytes_of d / 2

-- how many words a slot has
abbrev pub slot_words : List ℕ → ℕ
slot_words d = 7 + extra_words d

-- S: as many whole slots of w words as the 507 words behind the header give
abbrev pub slot_count : ℕ → ℕ
slot_count w = 507 / w

-- C: all slots but one hold entries, since the marker needs its own
unfoldable pub capacity : List ℕ → ℕ
capacity d = slot_count (slot_words d) - 1

-- an entry, or any slot: its words
abbrev pub Entry : Type 0
Entry = List ℕ

-- where each word of an entry stands; the extra words follow
abbrev pub status_word : ℕ
status_word = 0

abbrev pub name_word : ℕ
name_word = 1

abbrev pub name2_word : ℕ
name2_word = 2

abbrev pub extension_word : ℕ
extension_word = 3

abbrev pub length_word : ℕ
length_word = 4

abbrev pub channel_word : ℕ
channel_word = 5

abbrev pub date_word : ℕ
date_word = 6

abbrev pub kind : Entry → Kind
kind e = kind_of (get_or e status_word 0)

-- a protected file, by its status
unfoldable pub protected : Entry → Bool
protected e = eqb (get_or e status_word 0) protected_status

abbrev pub blocks : Entry → ℕ
blocks e = get_or e length_word 0

abbrev pub channel_of : Entry → ℕ
channel_of e = get_or e channel_word 0

abbrev pub date_of : Entry → ℕ
date_of e = get_or e date_word 0

-- the name of an entry: its three name words
abbrev pub name_of : Entry → Name
name_of e = record { first = get_or e name_word 0; second = get_or e name2_word 0; extension = get_or e extension_word 0 }

-- two names are the same where their three words are
unfoldable pub same_name : Name → Name → Bool
same_name n m = eqb n.first m.first && eqb n.second m.second && eqb n.extension m.extension

-- n slots of w words each
unfoldable pub chunks : ℕ → ℕ → List ℕ → List Entry
chunks zero w l = []
chunks (suc n) w l = take w l ∷ chunks n w (drop w l)

-- the slots of a segment stand from word 5
unfoldable pub slots : ℕ → List ℕ → List Entry
slots w g = chunks (slot_count w) w (drop 5 g)

-- the entries are the slots before the marker
unfoldable pub upto : List Entry → List Entry
upto [] = []
upto (e ∷ es) = let r = upto es in cond (is_end (kind e)) [] (e ∷ r)

unfoldable pub entries : List ℕ → ℕ → List Entry
entries d k = upto (slots (slot_words d) (segment d k))

-- the lengths of some entries added up, as a whole number of any size: it never wraps as a word would
unfoldable pub total : List Entry → ℕ
total [] = 0
total (e ∷ es) = blocks e + total es

-- the links from segment k, n of them followed: the segments visited, in order
unfoldable pub chain_from : ℕ → List ℕ → ℕ → List ℕ
chain_from zero d k = []
chain_from (suc n) d k = k ∷ chain_from n d (link_of (segment d k))

-- the segment that is reached after n links
unfoldable pub reached : ℕ → List ℕ → ℕ → ℕ
reached zero d k = k
reached (suc n) d k = reached n d (link_of (segment d k))

-- the chain: as many segments as are in use, from segment 1
unfoldable pub chain : List ℕ → List ℕ
chain d = chain_from (highest d) d 1

-- an entry with its segment and slot, both counted from 1, the place of its first word in the directory, and its first block
pub record Row : Type 0 where
  pub seg : ℕ
  pub slot : ℕ
  pub at : ℕ
  pub first : ℕ
  pub entry : Entry

-- No entry holds its first block: the segment's header has the first one's, and each further entry begins where the one before it ends.
-- The rows of entries of w words in segment s, the first of them in slot k, at word a, with first block b
unfoldable pub rows_in : ℕ → ℕ → ℕ → ℕ → ℕ → List Entry → List Row
rows_in w s k a b [] = []
rows_in w s k a b (e ∷ es) =
    record { seg = s; slot = k; at = a; first = b; entry = e } ∷ rows_in w s (k + 1) (a + w) (b + blocks e) es

unfoldable pub segment_rows : List ℕ → ℕ → List Row
segment_rows d s = rows_in (slot_words d) s 1 (512 * (s - 1) + 5) (first_of (segment d s)) (entries d s)

unfoldable pub rows_of : List ℕ → List ℕ → List Row
rows_of d [] = []
rows_of d (s ∷ ss) = segment_rows d s ++ rows_of d ss

-- all entries in chain order
unfoldable pub rows : List ℕ → List Row
rows d = rows_of d (chain d)

unfoldable pub entries_of : List ℕ → List ℕ → List Entry
entries_of d [] = []
entries_of d (s ∷ ss) = entries d s ++ entries_of d ss

unfoldable pub all_entries : List ℕ → List Entry
all_entries d = entries_of d (chain d)
