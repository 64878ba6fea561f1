-- A segment made anew, as words: the entries are given as their words, one after the other.
use Rattle.std.specs.Prelude.{ℕ, ◌+◌, ◌*◌, ◌-◌, ◌≤◌, ◌<◌, ◌≡◌, cond, List, [], ◌∷◌, ◌++◌, length, get_or, take, drop, set, replicate, eqb}
use Rattle.meaning.specs.Kinds.{tentative_status, end_status}
use Rattle.meaning.specs.Words.{Entry, length_word, blocks}
use Rattle.meaning.specs.Requests.{entry_of, empty_entry}
use Rattle.render.specs.declared.Tentative.{Tentative}

-- the new entry, of w words
abbrev pub new_entry : ℕ → Tentative → Entry
new_entry w e = entry_of w tentative_status e.name e.length e.channel e.date

-- at cost 2, an empty entry of length 0
unfoldable pub gap_words : ℕ → ℕ → List ℕ
gap_words w cost = cond (eqb cost 2) (empty_entry w 0) []

-- the words l of entries, with the new entry before the area that begins at word p of them; the area loses the new entry's length
unfoldable pub inserted_words : ℕ → ℕ → Entry → List ℕ → List ℕ
inserted_words p cost new l =
    take p l
    ++ gap_words (length new) cost
    ++ new
    ++ set (drop p l) length_word (get_or l (p + length_word) 0 - blocks new)

-- a segment from its header and the words of its entries
unfoldable pub rendered_words : List ℕ → List ℕ → List ℕ
rendered_words header l = take 512 (header ++ (l ++ end_status ∷ replicate 512 0))

-- the area's slot is there, and is as long as the new entry asks
pub record Inserting (l : List ℕ) (p cost : ℕ) (new : Entry) : Type 0 where
  pub wide : 7 ≤ length new
  pub narrow : length new ≤ 23
  pub slot : p + length new ≤ length l
  pub fits : blocks new ≤ get_or l (p + length_word) 0

-- the words g of a segment whose entries end at the word stop, with the new entry before the area that begins at word p
unfoldable pub inserted_into : List ℕ → ℕ → ℕ → ℕ → Entry → List ℕ
inserted_into g stop p cost new = rendered_words (take 5 g) (inserted_words (p - 5) cost new (take (stop - 5) (drop 5 g)))

-- the area's slot is among them and is as long as the new entry asks, and the segment has room for the slots that it costs
pub record Insertable (g : List ℕ) (stop p cost : ℕ) (new : Entry) : Type 0 where
  pub whole : length g ≡ 512
  pub wide : 7 ≤ length new
  pub narrow : length new ≤ 23
  pub from : 5 ≤ p
  pub slot : p + length new ≤ stop
  pub costs : 1 ≤ cost
  pub cheap : cost ≤ 2
  pub room : stop + cost * length new < 512
  pub fits : blocks new ≤ get_or g (p + length_word) 0
