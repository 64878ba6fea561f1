-- Squeeze (document 02, Req 05): from V, the words and the lent move list to the number, the count, the list and the words after. Permanent
-- files are packed in their old order; FILE.BAD never moves and no file passes one.
use Rattle.std.specs.Prelude.{ℕ, zero, suc, ◌+◌, ◌*◌, ◌-◌, Bool, cond, List, [], ◌∷◌, ◌++◌, length, drop, set, eqb, ltb}
use Rattle.meaning.specs.Kinds.{is_tentative, is_permanent}
use Rattle.meaning.specs.Words.{first_data, segment, first_of, slot_words, capacity, Entry, name_of, kind, blocks, entries, chain, all_entries}
use Rattle.meaning.specs.Keys.{spared}
use Rattle.meaning.specs.Sound.{any, rule, fault}
use Rattle.meaning.specs.Requests.{empty_entry, render}
use Rattle.meaning.specs.Enter.{with_segment, header_of}
use Rattle.squeezed.specs.Moves.{Move, needed}

-- a file is a permanent entry
unfoldable pub is_file : Entry → Bool
is_file e = is_permanent (kind e)

-- FILE.BAD covers bad blocks, protected or of length 0 too
unfoldable pub is_bad : Entry → Bool
is_bad e = spared (name_of e)

-- Entries are met in chain order: b is the block where an entry stands, p the next free block of those that are packed.
-- FILE.BAD never moves; every other file goes to the next free block
unfoldable pub new_place : ℕ → ℕ → Entry → ℕ
new_place b p e = cond (is_bad e) b p

-- the next free block after an entry: no file passes a FILE.BAD
unfoldable pub free_after : ℕ → ℕ → Entry → ℕ
free_after b p e = cond (is_file e) (new_place b p e + blocks e) p

-- and after several, the first of which stands at block b
unfoldable pub free_up_to : ℕ → ℕ → List Entry → ℕ
free_up_to b p [] = p
free_up_to b p (e ∷ es) = free_up_to (b + blocks e) (free_after b p e) es

-- each file's blocks: from where they stand, to where they go
unfoldable pub places : ℕ → ℕ → List Entry → List Move
places b p [] = []
places b p (e ∷ es) =
    let r = places (b + blocks e) (free_after b p e) es in
    cond (is_file e) (record { source = b; to = new_place b p e; length = blocks e } ∷ r) r

-- one move in chain order per file with blocks that changes place
unfoldable pub moves : List ℕ → List Move
moves d = needed (places (first_data d) (first_data d) (all_entries d))

-- What is left over from block p to q, if not 0, is one empty entry (other words 0)
unfoldable pub left_over : ℕ → ℕ → ℕ → List Entry
left_over w p q = cond (eqb p q) [] (empty_entry w (q - p) ∷ [])

-- Each permanent entry keeps its segment, order and words, and what is left over stands directly before the next FILE.BAD, in its segment.
-- (Before any other file nothing is left over.)
unfoldable pub packed_entries : ℕ → ℕ → ℕ → List Entry → List Entry
packed_entries w b p [] = []
packed_entries w b p (e ∷ es) =
    let r = packed_entries w (b + blocks e) (free_after b p e) es in
    cond (is_file e) (left_over w p (new_place b p e) ++ e ∷ r) r

-- or last in the chain's last segment: ss are the segments after it
abbrev pub last_over : List ℕ → List Entry → List Entry
last_over [] l = l
last_over (s ∷ ss) l = []

-- a segment of the new directory: its number, where it begins, its entries
pub record Part : Type 0 where
  pub seg : ℕ
  pub first : ℕ
  pub entries : List Entry

unfoldable pub parts : ℕ → List ℕ → ℕ → List ℕ → List Part
parts v d p [] = []
parts v d p (s ∷ ss) =
    let b = first_of (segment d s) in
    let q = free_up_to b p (entries d s) in
    record {
      seg = s;
      first = p;
      entries = packed_entries (slot_words d) b p (entries d s) ++ last_over ss (left_over (slot_words d) q v);
    }
    ∷ parts v d q ss

unfoldable pub new_parts : ℕ → List ℕ → List Part
new_parts v d = parts v d (first_data d) (chain d)

-- the new directory: each segment written anew with its start; words after markers become 0
unfoldable pub rewritten : List ℕ → List Part → List ℕ
rewritten d [] = d
rewritten d (x ∷ xs) =
    rewritten (with_segment d x.seg (render (set (header_of d x.seg) 4 x.first) x.entries)) xs

unfoldable pub squeezed : ℕ → List ℕ → List ℕ
squeezed v d = rewritten d (new_parts v d)

-- A directory with a tentative entry is refused with 21
unfoldable pub has_tentative : List ℕ → Bool
has_tentative d = any (λ e. is_tentative (kind e)) (all_entries d)

-- A segment that this fills beyond C gets refusal 26
unfoldable pub overfull : ℕ → List Part → Bool
overfull c xs = any (λ x. ltb c (length x.entries)) xs

-- a move takes three words of the lent list; too short a lent move list gets 24
unfoldable pub too_short : List Move → List ℕ → Bool
too_short ms room = ltb (length room) (3 * length ms)

-- the number of the smallest fault, or else what comes next
abbrev pub after_fault : ℕ → (Unit {0} → ℕ) → ℕ
after_fault zero next = next tt
after_fault (suc n) next = suc n

-- Refusals are tested in number order: 1 to 6, 21, 24, 26
unfoldable pub squeeze_number : ℕ → List ℕ → List ℕ → ℕ
squeeze_number v d room =
    after_fault (fault v d) λ _.
    rule 21 (has_tentative d) λ _.
    rule 24 (too_short (moves d) room) λ _.
    rule 26 (overfull (capacity d) (new_parts v d)) λ _.
    0

-- the words of moves, and lent room that a result does not need stays as it was
unfoldable pub move_words : List Move → List ℕ
move_words [] = []
move_words (m ∷ ms) = m.source ∷ m.to ∷ m.length ∷ move_words ms

-- what a squeeze gives: its number, how many moves, the lent move list, and the words
pub record Squeezed : Type 0 where
  pub number : ℕ
  pub count : ℕ
  pub list : List ℕ
  pub words : List ℕ

-- a refusal leaves all lent memory as it was
abbrev pub squeeze_by : ℕ → ℕ → List ℕ → List ℕ → Squeezed
squeeze_by zero v d room =
    record {
      number = 0;
      count = length (moves d);
      list = move_words (moves d) ++ drop (3 * length (moves d)) room;
      words = squeezed v d;
    }
squeeze_by (suc n) v d room = record { number = suc n; count = 0; list = room; words = d }

unfoldable pub squeeze : ℕ → List ℕ → List ℕ → Squeezed
squeeze v d room = squeeze_by (squeeze_number v d room) v d room
