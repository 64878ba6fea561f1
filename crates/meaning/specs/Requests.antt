-- The requests of document 01 but enter, and protect and unprotect of document 02: each from V, the words and what is asked to the answer
-- and the words after.
use Rattle.std.specs.Prelude.{ℕ, ◌+◌, ◌*◌, ◌-◌, Bool, cond, ◌&&◌, ◌||◌, not, List, [], ◌∷◌, ◌++◌, get_or, take, replicate, ℤ, pos, negsuc, eqb, leb}
use Rattle.std.proofs.Math.Option.{Option, none, some}
use Rattle.names.specs.Radix.{legal_name}
use Rattle.meaning.specs.declared.Name.{Name}
use Rattle.meaning.specs.Kinds.{empty_status, permanent_status, protected_status, end_status}
use Rattle.meaning.specs.Words.{segments, first_data, slot_words, Entry, Row}
use Rattle.meaning.specs.Words.{status_word, name_word, name2_word, extension_word, length_word, channel_word, name_of, protected, blocks, date_of}
use Rattle.meaning.specs.Keys.{spared}
use Rattle.meaning.specs.Sound.{bad1}
use Rattle.meaning.specs.Answers.{Outcome, position_of, refuse, success, if_sound, unless, on_row, is_none, is_protected, file_of, open_on, Write, put, write}

-- a requested name
abbrev pub legal : Name → Bool
legal n = legal_name n.first n.second n.extension

-- success with an entry that keeps its length and date; it stands where it stood
unfoldable pub success_with : Row → List ℕ → Outcome
success_with r after = success r.first (blocks r.entry) (date_of r.entry) (position_of r) after

-- Lookup changes nothing
unfoldable pub lookup : ℕ → List ℕ → Name → Outcome
lookup v d name =
    if_sound v d λ _.
    unless 7 (legal name) d λ _.
    on_row 13 (file_of d name) d λ r.
    success_with r d

-- to empty an entry is one write: all its words but the status stay
unfoldable pub emptying : Row → List Write
emptying r = put r.at status_word empty_status ∷ []

-- delete, rename (from it and to it) and enter are not for FILE.BAD: 19, straight after 7 (document 02, Req 03). Nor are delete and rename
-- for a protected file: 20, after 13 (document 02, Req 06)
unfoldable pub delete : ℕ → List ℕ → Name → Outcome
delete v d name =
    if_sound v d λ _.
    unless 7 (legal name) d λ _.
    unless 19 (not (spared name)) d λ _.
    on_row 13 (file_of d name) d λ r.
    unless 20 (not (protected r.entry)) d λ _.
    success_with r (write d (emptying r))

-- a file gets another status: that word alone, so that one which has it already stays as it is
unfoldable pub restating : Row → ℕ → List Write
restating r status = put r.at status_word status ∷ []

-- protect and unprotect are not for FILE.BAD either (document 02, Req 06)
unfoldable pub restate : ℕ → List ℕ → Name → ℕ → Outcome
restate v d file status =
    if_sound v d λ _.
    unless 7 (legal file) d λ _.
    unless 19 (not (spared file)) d λ _.
    on_row 13 (file_of d file) d λ r.
    success_with r (write d (restating r status))

unfoldable pub protect : ℕ → List ℕ → Name → Outcome
protect v d name = restate v d name protected_status

unfoldable pub unprotect : ℕ → List ℕ → Name → Outcome
unprotect v d name = restate v d name permanent_status

-- a job is background or foreground; a channel goes up to a limit (document 02, Req 07)
unfoldable pub channel_limit : ℕ
channel_limit = 255

unfoldable pub good_channel : ℕ → ℕ → Bool
good_channel job channel = (eqb job 0 || eqb job 2) && leb channel channel_limit

-- channel word (job·256 + channel)
abbrev pub word_of : ℕ → ℕ → ℕ
word_of job channel = job * 256 + channel

unfoldable pub abandon : ℕ → List ℕ → ℕ → ℕ → Outcome
abandon v d job channel =
    if_sound v d λ _.
    unless 8 (good_channel job channel) d λ _.
    on_row 15 (open_on d (word_of job channel)) d λ r.
    success_with r (write d (emptying r))

-- a new name is three writes
unfoldable pub renaming : Row → Name → List Write
renaming r new =
    put r.at name_word new.first
    ∷ put r.at name2_word new.second
    ∷ put r.at extension_word new.extension
    ∷ []

-- the file itself has its own name, so that a rename to it is refused by 14 too; and a rename to the name of a protected file, by 14 alone
unfoldable pub rename : ℕ → List ℕ → Name → Name → Outcome
rename v d old new =
    if_sound v d λ _.
    unless 7 (legal old && legal new) d λ _.
    unless 19 (not (spared old || spared new)) d λ _.
    on_row 13 (file_of d old) d λ r.
    unless 20 (not (protected r.entry)) d λ _.
    unless 14 (is_none (file_of d new)) d λ _.
    success_with r (write d (renaming r new))

-- a finished file of the same name gives way: its entry is emptied
unfoldable pub replacing : Option Row → List Write
replacing none = []
replacing (some old) = emptying old

-- the file that gives way to a new one of its name; a FILE.BAD gives way to none, as several may stand (document 02, Req 03)
unfoldable pub gives_way : List ℕ → Name → Option Row
gives_way d n = cond (spared n) none (file_of d n)

-- a new file of this name would come over a protected one (document 02, Req 06); a FILE.BAD comes over none
unfoldable pub over_protected : List ℕ → Name → Bool
over_protected d n = is_protected (gives_way d n)

-- the entry becomes permanent with its final length, and the blocks that it gives back go to the area behind it
unfoldable pub closing : List ℕ → Row → ℕ → List Write
closing d r n =
    let next = r.at + slot_words d in
    put r.at status_word permanent_status
    ∷ put r.at length_word n
    ∷ put r.at channel_word 0
    ∷ put next length_word (get_or d (next + length_word) 0 + (blocks r.entry - n))
    ∷ replacing (gives_way d (name_of r.entry))

-- a final length: a count of blocks, or one below 0
unfoldable pub final_length : ℤ → Option ℕ
final_length (pos n) = some n
final_length (negsuc n) = none

-- 16: the final length is no number of blocks, or more than was reserved; then 20
abbrev pub closed : List ℕ → Row → Option ℕ → Outcome
closed d r none = refuse 16 d
closed d r (some n) =
    unless 16 (leb n (blocks r.entry)) d λ _.
    unless 20 (not (over_protected d (name_of r.entry))) d λ _.
    success r.first n (date_of r.entry) (position_of r) (write d (closing d r n))

unfoldable pub close : ℕ → List ℕ → ℕ → ℕ → ℤ → Outcome
close v d job channel final =
    if_sound v d λ _.
    unless 8 (good_channel job channel) d λ _.
    on_row 15 (open_on d (word_of job channel)) d λ r.
    closed d r (final_length final)

-- an entry of w words: its first seven, and extras 0
unfoldable pub entry_of : ℕ → ℕ → Name → ℕ → ℕ → ℕ → Entry
entry_of w status name length channel date =
    status ∷ name.first ∷ name.second ∷ name.extension ∷ length ∷ channel ∷ date ∷ replicate (w - 7) 0

-- an empty entry of this length, other words 0
abbrev pub empty_entry : ℕ → ℕ → Entry
empty_entry w length = entry_of w empty_status (record { first = 0; second = 0; extension = 0 }) length 0 0

-- the words of entries, one after the other, before the words t
unfoldable pub flat : List Entry → List ℕ → List ℕ
flat [] t = t
flat (e ∷ es) t = e ++ flat es t

-- a segment from its header and entries: then the marker's status, and all words after it 0
unfoldable pub render : List ℕ → List Entry → List ℕ
render header es = take 512 (header ++ flat es (end_status ∷ replicate 512 0))

-- a directory with all data blocks free: segment 1 alone is in use, with one area, and the words of all others are 0
unfoldable pub fresh_words : ℕ → List ℕ → ℕ → List ℕ
fresh_words v d extra =
    render (segments d ∷ 0 ∷ 1 ∷ 2 * extra ∷ first_data d ∷ [])
    (empty_entry (7 + extra) (v - first_data d) ∷ [])
    ++ replicate (512 * (segments d - 1)) 0

-- what stood in the words before is not looked at, so that only the sizes can be refused; the answer is the area, the one
-- entry of segment 1
unfoldable pub fresh : ℕ → List ℕ → ℕ → Outcome
fresh v d extra =
    unless 1 (not (bad1 v d)) d λ _.
    unless 2 (leb extra 16) d λ _.
    success (first_data d) (v - first_data d) 0 (record { segment = 1; slot = 1 }) (fresh_words v d extra)
