-- The head file and the listing (document 01, "The listing"), byte for byte.
use Rattle.std.specs.Prelude.{ℕ, zero, suc, ◌+◌, ◌*◌, ◌-◌, ◌/◌, ◌%◌, Bool, true, false, cond, ◌&&◌, List, [], ◌∷◌, ◌++◌, length, get_or, take, drop, replicate, eqb, leb, ltb}
use Prim.Native.Char.{code}
use Rattle.names.specs.Text.{bytes, same_bytes}
use Rattle.names.specs.Radix.{text_of}
use Rattle.dates.specs.Dates.{names_day, day_of_word}
use Rattle.meaning.specs.declared.Kind.{Kind}
use Rattle.meaning.specs.declared.Kind.TheVariants.{Tentative, Empty, Permanent, End, Unknown}
use Rattle.meaning.specs.Kinds.{is_tentative, is_empty, is_permanent}
use Rattle.meaning.specs.Words.{segments, extra_bytes_of, highest, Entry, name_word, name2_word, extension_word, kind, blocks, date_of}
use Rattle.meaning.specs.Words.{Row, rows, all_entries}
use Rattle.meaning.specs.Sound.{fault}

-- all low byte first
unfoldable pub word_at : List ℕ → ℕ → ℕ
word_at bs k = get_or bs k 0 + 256 * get_or bs (k + 1) 0

unfoldable pub words_in : List ℕ → List ℕ
words_in [] = []
words_in (low ∷ []) = []
words_in (low ∷ high ∷ bs) = (low + 256 * high) ∷ words_in bs

-- a head file: three bytes of mark, the version as a word, V as a word, and then the words of the directory
unfoldable pub mark : List ℕ
mark = bytes "RVH"

abbrev pub head_bytes : ℕ
head_bytes = 7

unfoldable pub volume_in : List ℕ → ℕ
volume_in file = word_at file 5

unfoldable pub directory_in : List ℕ → List ℕ
directory_in file = words_in (drop head_bytes file)

-- what 17 asks of a head file: its head is whole, its directory no longer than 31 segments, mark and version are right, no word is half
unfoldable pub good_head : List ℕ → Bool
good_head file =
    leb head_bytes (length file)
    && leb (length file) 31751
    && same_bytes (take 3 file) mark
    && eqb (word_at file 3) 1
    && eqb ((length file - head_bytes) % 2) 0

-- a number in decimal; f bounds how many digits are left to write
unfoldable pub digits_of : ℕ → ℕ → List ℕ
digits_of zero n = []
digits_of (suc f) n =
    let r = digits_of f (n / 10) in
    cond (ltb n 10) [] r ++ ((code "0" + n % 10) ∷ [])

-- no number here has more than ten digits
unfoldable pub decimal : ℕ → List ℕ
decimal n = digits_of 10 n

-- row numbers six wide
unfoldable pub six_wide : ℕ → List ℕ
six_wide n = replicate (6 - length (decimal n)) (code " ") ++ decimal n

unfoldable pub two_digits : ℕ → List ℕ
two_digits n = (code "0" + n / 10) ∷ (code "0" + n % 10) ∷ []

-- a date as 15-03-1976; dates absent or bad print ten hyphens
unfoldable pub date_text : ℕ → List ℕ
date_text word =
    let day = day_of_word word in
    cond (names_day word)
    (two_digits day.day ++ bytes "-" ++ two_digits day.month ++ bytes "-" ++ decimal day.year)
    (bytes "----------")

-- six characters, a dot, and the extension
unfoldable pub name_text : Entry → List ℕ
name_text e =
    let t = text_of (get_or e name_word 0) (get_or e name2_word 0) (get_or e extension_word 0) in
    take 6 t ++ bytes "." ++ drop 6 t

-- T marks tentative, E empty, P permanent
abbrev pub letter : Kind → List ℕ
letter Tentative = bytes "T"
letter Empty = bytes "E"
letter Permanent = bytes "P"
letter End = []
letter Unknown = []

-- an empty entry shows neither name nor date
unfoldable pub row_text : Row → List ℕ
row_text r =
    let e = r.entry in
    letter (kind e)
    ++ bytes " "
    ++ cond (is_empty (kind e)) (bytes "..........") (name_text e)
    ++ six_wide r.first
    ++ six_wide (blocks e)
    ++ bytes " "
    ++ cond (is_empty (kind e)) (bytes "----------") (date_text (date_of e))
    ++ bytes "\n"

unfoldable pub rows_text : List Row → List ℕ
rows_text [] = []
rows_text (r ∷ rs) = row_text r ++ rows_text rs

-- totals are in blocks: the sum over the entries of a kind
unfoldable pub blocks_of : (Kind → Bool) → List Entry → ℕ
blocks_of is [] = 0
blocks_of is (e ∷ es) = cond (is (kind e)) (blocks e) 0 + blocks_of is es

-- the first line: the volume, the segments in use, and how many extra bytes an entry has
unfoldable pub head_line : ℕ → List ℕ → List ℕ
head_line v d =
    bytes "VOLUME "
    ++ decimal v
    ++ bytes " SEGMENTS "
    ++ decimal (highest d)
    ++ bytes " OF "
    ++ decimal (segments d)
    ++ bytes " EXTRA "
    ++ decimal (extra_bytes_of d)
    ++ bytes "\n"

unfoldable pub total_line : List ℕ → List ℕ
total_line d =
    bytes "FILES "
    ++ decimal (blocks_of is_permanent (all_entries d))
    ++ bytes " OPEN "
    ++ decimal (blocks_of is_tentative (all_entries d))
    ++ bytes " FREE "
    ++ decimal (blocks_of is_empty (all_entries d))
    ++ bytes "\n"

-- all that a refused file prints
unfoldable pub refused_line : ℕ → List ℕ
refused_line n = bytes "REFUSED " ++ decimal n ++ bytes "\n"

-- the first line, a line for each row, and the totals
unfoldable pub sound_text : ℕ → List ℕ → List ℕ
sound_text v d = head_line v d ++ rows_text (rows d) ++ total_line d

abbrev pub text_by : ℕ → ℕ → List ℕ → List ℕ
text_by zero v d = sound_text v d
text_by (suc n) v d = refused_line (suc n)

abbrev pub listing_by : Bool → List ℕ → List ℕ
listing_by false file = refused_line 17
listing_by true file = text_by (fault (volume_in file) (directory_in file)) (volume_in file) (directory_in file)

-- 17 comes before 1 to 6
unfoldable pub listing : List ℕ → List ℕ
listing file = listing_by (good_head file) file
