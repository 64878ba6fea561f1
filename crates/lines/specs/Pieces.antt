-- Lines and rows of the listing by the numbers and words that they show, where the meaning takes them from a directory.
use Rattle.std.specs.Prelude.{ℕ, Bool, cond, List, ◌++◌, take, drop}
use Rattle.names.specs.Text.{bytes}
use Rattle.names.specs.Radix.{text_of}
use Rattle.meaning.specs.declared.Kind.{Kind}
use Rattle.meaning.specs.Kinds.{is_empty}
use Rattle.meaning.specs.Listing.{decimal, six_wide, date_text, letter}

-- six characters, a dot, and the extension
unfoldable pub dotted : List ℕ → List ℕ
dotted text = take 6 text ++ bytes "." ++ drop 6 text

-- the name of three words
unfoldable pub name_by : ℕ → ℕ → ℕ → List ℕ
name_by a b c = dotted (text_of a b c)

unfoldable pub row_start : Kind → ℕ → ℕ → ℕ → List ℕ
row_start kind a b c = letter kind ++ bytes " " ++ cond (is_empty kind) (bytes "..........") (name_by a b c)

-- an empty entry shows the date of the word 0, which is none
unfoldable pub row_date : Kind → ℕ → ℕ
row_date kind date = cond (is_empty kind) 0 date

unfoldable pub row_end : Kind → ℕ → List ℕ
row_end kind date = bytes " " ++ date_text (row_date kind date) ++ bytes "\n"

unfoldable pub row_by : Kind → ℕ → ℕ → ℕ → ℕ → ℕ → ℕ → List ℕ
row_by kind a b c first blocks date = row_start kind a b c ++ six_wide first ++ six_wide blocks ++ row_end kind date

unfoldable pub head_by : ℕ → ℕ → ℕ → ℕ → List ℕ
head_by v highest segments extra =
    bytes "VOLUME "
    ++ decimal v
    ++ bytes " SEGMENTS "
    ++ decimal highest
    ++ bytes " OF "
    ++ decimal segments
    ++ bytes " EXTRA "
    ++ decimal extra
    ++ bytes "\n"

unfoldable pub total_by : ℕ → ℕ → ℕ → List ℕ
total_by files opened free =
    bytes "FILES "
    ++ decimal files
    ++ bytes " OPEN "
    ++ decimal opened
    ++ bytes " FREE "
    ++ decimal free
    ++ bytes "\n"

unfoldable pub label_by : Bool → List ℕ → List ℕ → List ℕ
label_by labelled name owner =
    cond labelled (bytes "LABEL " ++ name ++ bytes " " ++ owner ++ bytes "\n") (bytes "UNLABELLED\n")
