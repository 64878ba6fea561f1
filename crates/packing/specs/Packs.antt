-- What is written, slot by slot: the words of a segment's packed entries, and those of its moves.
use Rattle.std.specs.Prelude.{ℕ, ◌≤◌, ◌≡◌, cond, List, [], ◌∷◌, ◌++◌, length}
use Rattle.meaning.specs.Words.{Entry, blocks, slots, upto}
use Rattle.meaning.specs.Requests.{flat}
use Rattle.segment.specs.Written.{Written}
use Rattle.squeezed.specs.Moves.{needed}
use Rattle.squeezed.specs.Squeeze.{is_file, new_place, free_after, free_up_to, places, left_over, packed_entries, move_words}
use Rattle.packing.specs.declared.Place.{Place}

-- the words of what is left over from block p to q
abbrev pub left_words : ℕ → ℕ → ℕ → List ℕ
left_words w p q = flat (left_over w p q) []

-- the words that one entry lets out: a file is written after what is left over before it, anything else nothing
abbrev pub out_words : ℕ → ℕ → ℕ → Entry → List ℕ
out_words w b p e = cond (is_file e) (left_words w p (new_place b p e) ++ e) []

-- the words of packed entries
abbrev pub packed_words : ℕ → ℕ → ℕ → List Entry → List ℕ
packed_words w b p es = flat (packed_entries w b p es) []

-- the words of n blocks that go from block b to q, if a move is needed
abbrev pub one_move : ℕ → ℕ → ℕ → List ℕ
one_move b q n = move_words (needed (record { source = b; to = q; length = n } ∷ []))

-- those of an entry: a file's move, or nothing
abbrev pub move_out : ℕ → ℕ → Entry → List ℕ
move_out b p e = cond (is_file e) (one_move b (new_place b p e) (blocks e)) []

-- those of entries
abbrev pub list_words : ℕ → ℕ → List Entry → List ℕ
list_words b p es = move_words (needed (places b p es))

-- what is presumed of an entry: the next free block p has not passed the block b where it stands
pub record Passable (e : Entry) (b p : ℕ) : Type 0 where
  pub narrow : length e ≤ 23
  pub low : p ≤ b
  pub high : b ≤ 65535

-- what comes out of an entry e that stands at block b, from the place x on: its words in the segment made anew, its move in the list
pub record EntryPassed (e : Entry) (b : ℕ) (x : Place) (out out' list list' : List ℕ) (r : Place) : Type 0 where
  pub entries : Written out x.at (out_words (length e) b x.free e) out' r.at
  pub moves : Written list x.listed (move_out b x.free e) list' r.listed
  pub free : r.free ≡ free_after b x.free e

-- what comes out of a walk over a segment g that writes the words W of its entries: the words, the place z after them, and the next free block f
pub record Walked (W : ℕ → ℕ → List Entry → List ℕ) (w : ℕ) (g : List ℕ) (b p : ℕ) (before : List ℕ) (at : ℕ) (after : List ℕ) (z f : ℕ)
    : Type 0 where
  pub written : Written before at (W b p (upto (slots w g))) after z
  pub free : f ≡ free_up_to b p (upto (slots w g))
