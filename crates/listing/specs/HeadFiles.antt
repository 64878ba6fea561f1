-- Head files of version 2 (document 02, Req 01): block 1 stands after V, before the directory's words, and the listing begins with a line of its
-- label. Version 1 is document 01's (meaning, specs/Listing.antt), and stays.
use Rattle.std.specs.Prelude.{ℕ, zero, suc, ◌-◌, ◌%◌, Bool, cond, ◌&&◌, List, ◌++◌, length, take, drop, eqb, leb}
use Rattle.names.specs.Text.{bytes, same_bytes}
use Rattle.meaning.specs.Sound.{fault}
use Rattle.meaning.specs.Listing.{word_at, words_in, mark, head_bytes, volume_in, refused_line, sound_text, listing}
use Rattle.label.specs.declared.Label.{Label}
use Rattle.label.specs.Labels.{label_of}

unfoldable pub block_in : List ℕ → List ℕ
block_in file = take 512 (drop head_bytes file)

-- seven bytes of mark, version and V, and 512 of block 1, stand before the directory
unfoldable pub words_after_block : List ℕ → List ℕ
words_after_block file = words_in (drop 519 file)

-- what 17 asks of a head file of version 2
unfoldable pub good_second : List ℕ → Bool
good_second file =
    leb 519 (length file)
    && leb (length file) 32263
    && same_bytes (take 3 file) mark
    && eqb (word_at file 3) 2
    && eqb ((length file - 519) % 2) 0

-- the label's line: name and owner, one space between, as they are; or that there is no label
unfoldable pub label_line : Label → List ℕ
label_line l = cond l.labelled (bytes "LABEL " ++ l.name ++ bytes " " ++ l.owner) (bytes "UNLABELLED") ++ bytes "\n"

-- by the number of a refusal, 0 for none: the line of the label and the listing of the directory, or the refusal's line alone
abbrev pub labelled_text : ℕ → Label → ℕ → List ℕ → List ℕ
labelled_text zero l v d = label_line l ++ sound_text v d
labelled_text (suc n) l v d = refused_line (suc n)

-- the label's number, 25, is tested before 1 to 6
abbrev pub second_by : ℕ → Label → ℕ → List ℕ → List ℕ
second_by zero l v d = labelled_text (fault v d) l v d
second_by (suc n) l v d = labelled_text (suc n) l v d

unfoldable pub second_listing : List ℕ → List ℕ
second_listing file =
    let l = label_of (block_in file) in
    second_by l.number l (volume_in file) (words_after_block file)

-- the listing of any file: what is no good head file of version 2 is listed or refused by document 01
unfoldable pub listing_of : List ℕ → List ℕ
listing_of file = cond (good_second file) (second_listing file) (listing file)
