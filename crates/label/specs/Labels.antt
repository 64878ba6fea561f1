-- Block 1 of a volume (document 02, Req 01): the label that it carries, what a reader answers, and what a writer leaves. A block is a list of
-- bytes.
use Rattle.std.specs.Prelude.{ℕ, ◌+◌, Bool, true, false, cond, ◌&&◌, List, [], ◌∷◌, ◌++◌, length, take, drop, replicate, eqb, leb}
use Rattle.names.specs.Text.{bytes, same_bytes}
use Rattle.names.specs.Radix.{space}
use Rattle.label.specs.declared.Label.{Label}

-- where name, owner and mark stand, each of 12 bytes
abbrev pub name_place : ℕ
name_place = 0o730

abbrev pub owner_place : ℕ
owner_place = 0o744

abbrev pub mark_place : ℕ
mark_place = 0o760

-- the system's mark, padded with four spaces
unfoldable pub system_mark : List ℕ
system_mark = bytes "DECRT11A    "

unfoldable pub twelve_at : ℕ → List ℕ → List ℕ
twelve_at k block = take 12 (drop k block)

unfoldable pub is_block : List ℕ → Bool
is_block block = eqb (length block) 512

unfoldable pub is_marked : List ℕ → Bool
is_marked block = same_bytes (twelve_at mark_place block) system_mark

-- a byte that a label may have
unfoldable pub is_label_byte : ℕ → Bool
is_label_byte b = leb 32 b && leb b 126

unfoldable pub are_label_bytes : List ℕ → Bool
are_label_bytes [] = true
are_label_bytes (b ∷ bs) = let r = are_label_bytes bs in is_label_byte b && r

-- name and owner that may be written, or read under the mark
unfoldable pub is_label : List ℕ → List ℕ → Bool
is_label name owner = are_label_bytes name && are_label_bytes owner

-- what the reader answers where there is no label to give: a number, and blanks
unfoldable pub without_label : ℕ → Label
without_label n = record { number = n; labelled = false; name = replicate 12 space; owner = replicate 12 space }

unfoldable pub with_label : List ℕ → List ℕ → Label
with_label n o = record { number = 0; labelled = true; name = n; owner = o }

-- under the mark: the label, or 25 where it has a byte that no label has
unfoldable pub marked_label : List ℕ → List ℕ → Label
marked_label n o = cond (is_label n o) (with_label n o) (without_label 25)

-- the reader: 25 for what is no block; a block without the mark is unlabelled, which is no refusal
unfoldable pub label_of : List ℕ → Label
label_of block =
    cond (is_block block)
    (cond (is_marked block) (marked_label (twelve_at name_place block) (twelve_at owner_place block)) (without_label 0))
    (without_label 25)

-- bytes put into a block at a place; every other byte stays
unfoldable pub put_at : ℕ → List ℕ → List ℕ → List ℕ
put_at k text block = take k block ++ text ++ drop (k + length text) block

-- a block with a name, an owner and the mark
unfoldable pub labelled_with : List ℕ → List ℕ → List ℕ → List ℕ
labelled_with name owner block = put_at mark_place system_mark (put_at owner_place owner (put_at name_place name block))

-- what the writer can write
unfoldable pub is_writable : List ℕ → List ℕ → List ℕ → Bool
is_writable block name owner = is_block block && is_label name owner

-- the writer: its number, and the block that it leaves, which a refusal does not change
unfoldable pub write_number : List ℕ → List ℕ → List ℕ → ℕ
write_number block name owner = cond (is_writable block name owner) 0 25

unfoldable pub written : List ℕ → List ℕ → List ℕ → List ℕ
written block name owner = cond (is_writable block name owner) (labelled_with name owner block) block
