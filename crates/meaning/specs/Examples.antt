-- Document 01's starred bench examples, 1 to 8 and 10, as one table, in the document's terms: what is asked, and what comes out. And a
-- second table for the slips that it warns of. antt computes both (proofs/Examples.antt).
use Rattle.std.specs.Prelude.{ℕ, zero, suc, ◌+◌, ◌*◌, Bool, true, false, ◌&&◌, List, [], ◌∷◌, ◌++◌, map, set, replicate, ℤ, pos, negsuc, eqb}
use Prim.Native.String.{String}
use Rattle.names.specs.Text.{bytes, same_bytes}
use Rattle.names.specs.Radix.{words_of_text}
use Rattle.dates.specs.Dates.{word_of_day}
use Rattle.meaning.specs.declared.Op.{Op}
use Rattle.meaning.specs.declared.Op.TheVariants.{Lookup, Enter, Close, Delete, Rename, Protect, Unprotect}
use Rattle.meaning.specs.declared.Name.{Name}
use Rattle.meaning.specs.declared.Request.{Request}
use Rattle.meaning.specs.declared.Answer.{Answer}
use Rattle.meaning.specs.Words.{Entry, blocks, all_entries}
use Rattle.meaning.specs.Sound.{fault}
use Rattle.meaning.specs.Answers.{Outcome, refusal}
use Rattle.meaning.specs.Requests as Requests
use Rattle.meaning.specs.Kinds.{tentative_status, permanent_status}
use Rattle.meaning.specs.Requests.{entry_of, empty_entry, render}
use Rattle.meaning.specs.Batch.{serve, batch}
use Rattle.meaning.specs.Listing.{date_text}

-- a step of an example: a fresh start with E extra words, or a request
pub data Ask : Type 0 where
  start : ℕ → Ask
  request : Request → Ask

-- what is asked, and the answer's numbers, written out here: a table that took them from the meaning would follow its slips
pub record Step : Type 0 where
  pub ask : Ask
  pub number : ℕ
  pub first : ℕ
  pub length : ℕ
  pub date : ℕ
  pub segment : ℕ
  pub slot : ℕ

-- a row of the table: a text and its three words; a day, its number and word; a date word as the listing shows it; a run: V, the words
-- that it begins with, its steps, and the lengths of all entries in the end; the same as one batch; or the fault's number of V and words
pub data Case : Type 0 where
  words_for : String → ℕ → ℕ → ℕ → Case
  dated : ℕ → ℕ → ℕ → ℕ → ℕ → Case
  shown : ℕ → String → Case
  run : ℕ → List ℕ → List Step → List ℕ → Case
  batched : ℕ → List ℕ → List Step → List ℕ → Case
  faulty : ℕ → List ℕ → ℕ → Case

-- N segments of words that don't matter
abbrev pub any_words : ℕ → List ℕ
any_words n = replicate (512 * n) 0

unfoldable pub name_in : String → Name
name_in t =
    let w = words_of_text (bytes t) in
    record { first = w.first; second = w.second; extension = w.extension }

unfoldable pub ask : Op → String → String → ℕ → ℕ → ℤ → ℤ → ℕ → Ask
ask op old new job channel size final date =
    request
    (record {
      op = op;
      name = name_in old;
      new_name = name_in new;
      job = job;
      channel = channel;
      size = size;
      final_length = final;
      date = date;
    })

abbrev pub ask_enter : String → ℤ → ℕ → ℕ → ℕ → Ask
ask_enter name size job channel date = ask Enter name name job channel size (pos 0) date

abbrev pub ask_close : ℕ → ℕ → ℤ → Ask
ask_close job channel final = ask Close "A        " "A        " job channel (pos 0) final 0

abbrev pub ask_delete : String → Ask
ask_delete name = ask Delete name name 0 0 (pos 0) (pos 0) 0

abbrev pub ask_lookup : String → Ask
ask_lookup name = ask Lookup name name 0 0 (pos 0) (pos 0) 0

abbrev pub ask_rename : String → String → Ask
ask_rename old new = ask Rename old new 0 0 (pos 0) (pos 0) 0

abbrev pub ask_protect : String → Ask
ask_protect name = ask Protect name name 0 0 (pos 0) (pos 0) 0

abbrev pub ask_unprotect : String → Ask
ask_unprotect name = ask Unprotect name name 0 0 (pos 0) (pos 0) 0

-- carried out, with the entry's first block, length and date, and its segment and slot; or refused by a number
abbrev pub gives : Ask → ℕ → ℕ → ℕ → ℕ → ℕ → Step
gives a first length date segment slot =
    record { ask = a; number = 0; first = first; length = length; date = date; segment = segment; slot = slot }

abbrev pub gets : Ask → ℕ → Step
gets a number = record { ask = a; number = number; first = 0; length = 0; date = 0; segment = 0; slot = 0 }

-- examples 3, 4 and 5: a fresh start of four segments; DAY.CHG entered with 30 blocks; closed at 12
abbrev pub fresh3 : Step
fresh3 = gives (start 0) 14 480 0 1 1

abbrev pub enter4 : Step
enter4 = gives (ask_enter "DAY   CHG" (pos 30) 0 3 3556) 14 30 3556 1 1

abbrev pub close5 : Step
close5 = gives (ask_close 0 3 (pos 12)) 14 12 3556 1 1

unfoldable pub table : List Case
table =
    words_for "DAY   CHG" 6465 0 5127
    ∷ dated 15 3 1976 0 3556
    ∷ dated 29 2 1973 9 0
    ∷ run 494 (any_words 4) (fresh3 ∷ []) (480 ∷ [])
    ∷ run 494 (any_words 4) (fresh3 ∷ enter4 ∷ []) (30 ∷ 450 ∷ [])
    ∷ run 494 (any_words 4) (fresh3 ∷ enter4 ∷ close5 ∷ []) (12 ∷ 468 ∷ [])
    ∷ run 494 (any_words 4) (fresh3 ∷ enter4 ∷ gets (ask_close 0 3 (pos 31)) 16 ∷ []) (30 ∷ 450 ∷ [])
    ∷ run 494 (any_words 4) (fresh3 ∷ enter4 ∷ gives (ask_enter "DAY   CHG" (pos 100) 0 4 3556) 44 100 3556 1 3 ∷ [])
    (30 ∷ 0 ∷ 100 ∷ 350 ∷ [])
    ∷ run 173 (any_words 1)
    (gives (start 0) 8 165 0 1 1
    ∷ gives (ask_enter "A        " (pos 100) 0 1 0) 8 100 0 1 1
    ∷ gives (ask_close 0 1 (pos 100)) 8 100 0 1 1
    ∷ gives (ask_enter "B        " (pos 5) 0 2 0) 108 5 0 1 2
    ∷ gives (ask_close 0 2 (pos 5)) 108 5 0 1 2
    ∷ gives (ask_delete "A        ") 8 100 0 1 1
    ∷ gives (ask_enter "C        " (pos 0) 0 3 0) 8 60 0 1 1
    ∷ [])
    (60 ∷ 40 ∷ 5 ∷ 60 ∷ [])
    ∷ run 15 (any_words 1) (gives (start 0) 8 7 0 1 1 ∷ gives (ask_enter "A        " (pos 0) 0 3 0) 8 4 0 1 1 ∷ []) (4 ∷ 3 ∷ [])
    ∷ run 8 (any_words 1) (gives (start 0) 8 0 0 1 1 ∷ gets (ask_enter "A        " (negsuc 0) 0 3 0) 11 ∷ []) (0 ∷ [])
    ∷ run 494 (any_words 4)
    (fresh3 ∷ enter4 ∷ close5 ∷ gets (ask_rename "DAY   CHG" "DAY   CHG") 14 ∷ [])
    (12 ∷ 468 ∷ [])
    ∷ []

-- a directory of one segment with these entries, for V = 6 + 2 + the sum of their lengths
abbrev pub one_segment : List Entry → List ℕ
one_segment es = render (1 ∷ 0 ∷ 1 ∷ 0 ∷ 8 ∷ []) es

-- a name of one word
abbrev pub short : ℕ → Name
short a = record { first = a; second = 0; extension = 0 }

abbrev pub file : ℕ → ℕ → Entry
file a length = entry_of 7 permanent_status (short a) length 0 0

abbrev pub area : ℕ → Entry
area length = empty_entry 7 length

abbrev pub tentative : ℕ → ℕ → Entry
tentative length channel = entry_of 7 tentative_status (short 1600) length channel 0

-- a file of this name, finished or open: the words come from the text, and so are not taken from what they test
abbrev pub file_named : String → ℕ → Entry
file_named t length = entry_of 7 permanent_status (name_in t) length 0 0

abbrev pub open_named : String → ℕ → ℕ → Entry
open_named t length channel = entry_of 7 tentative_status (name_in t) length channel 0

-- a file with this status, which is written out here
abbrev pub file_with : ℕ → String → ℕ → Entry
file_with status t length = entry_of 7 status (name_in t) length 0 0

-- two segments in use, the second with other numbers in the word where segment 1 has H
abbrev pub two_segments : List ℕ
two_segments = render (2 ∷ 2 ∷ 2 ∷ 0 ∷ 10 ∷ []) (area 5 ∷ []) ++ render (2 ∷ 0 ∷ 77 ∷ 0 ∷ 15 ∷ []) (area 5 ∷ [])

-- n files of one block, named apart from k on
unfoldable pub files_from : ℕ → ℕ → List Entry
files_from k zero = []
files_from k (suc n) = file (1600 + k) 1 ∷ files_from (k + 1) n

-- two segments, of which one is open and full: 34 files, a tentative entry with its area of 10, and 35 files
abbrev pub full_segment : List ℕ
full_segment =
    render (2 ∷ 0 ∷ 1 ∷ 0 ∷ 10 ∷ []) (files_from 1 34 ++ tentative 1 3 ∷ area 10 ∷ files_from 35 35) ++ any_words 1

-- and one that is full of 70 files before an area of 10
abbrev pub files_and_area : List ℕ
files_and_area = render (2 ∷ 0 ∷ 1 ∷ 0 ∷ 10 ∷ []) (files_from 1 70 ++ area 10 ∷ []) ++ any_words 1

-- the slips: a sum of V + 65,536; a tentative entry before a file, and before the marker; zero lengths, legal for every kind; H read in
-- another segment than 1; a looped chain; one channel word or one name twice; refusals in number order, where two would apply; a close over
-- a file of the same name, which keeps its own blocks; the highest channel of either job, a file on each; the first and last days of the
-- ages, and 16,384, which is an age alone and no date; requests that touch no file that they don't name, though it shares a name word or
-- stands next; a split that parts no tentative entry from its area, and where the new entry is after it, in the old segment or in the new
-- one; and FILE.BAD: two and three are sound, and of no other name two, though it shares two words with it; lookup finds the first; 19
-- comes after 7 and before 8 and 13, where there is none, too; and a close leaves every other one; and protected files: 33,792 is a
-- permanent entry, 33,024 and the protection bit in any other status are not; 20 comes after 13, 16 and 10, and before 14 and 11; a rename
-- to a protected name gets 14; what is unprotected again goes; and a protected FILE.BAD is a FILE.BAD
unfoldable pub slips : List Case
slips =
    faulty 100 (one_segment (file 1600 65535 ∷ file 3200 93 ∷ [])) 5
    ∷ faulty 100 (one_segment (file 1600 50 ∷ area 42 ∷ [])) 0
    ∷ faulty 100 (one_segment (tentative 50 3 ∷ file 1600 42 ∷ [])) 4
    ∷ faulty 100 (one_segment (area 50 ∷ tentative 42 3 ∷ [])) 4
    ∷ faulty 100 (one_segment (file 1600 0 ∷ tentative 0 3 ∷ area 0 ∷ area 92 ∷ [])) 0
    ∷ faulty 20 two_segments 0
    ∷ faulty 20 (set two_segments 513 1) 3
    ∷ faulty 100 (one_segment (tentative 10 3 ∷ area 10 ∷ tentative 10 3 ∷ area 62 ∷ [])) 6
    ∷ faulty 100 (one_segment (file 1600 10 ∷ area 10 ∷ file 1600 72 ∷ [])) 6
    ∷ faulty 65536 (any_words 1) 1
    ∷ run 100 (one_segment (file 1600 50 ∷ area 42 ∷ []))
    (gets (ask_enter "a        " (negsuc 1) 1 256 1) 7
    ∷ gets (ask_enter "B        " (negsuc 1) 1 255 1) 8
    ∷ gets (ask_enter "B        " (negsuc 1) 0 256 1) 8
    ∷ gets (ask_enter "B        " (negsuc 1) 0 255 1) 9
    ∷ gets (ask_enter "B        " (pos 93) 2 255 0) 11
    ∷ gets (ask_close 3 3 (pos 1)) 8
    ∷ gets (ask_close 2 256 (negsuc 0)) 8
    ∷ gets (ask_close 2 255 (negsuc 0)) 15
    ∷ gets (ask_rename "B        " "A        ") 13
    ∷ gets (ask_rename "B        " "B B      ") 7
    ∷ gets (ask_delete "B        ") 13
    ∷ [])
    (50 ∷ 42 ∷ [])
    ∷ run 100 (one_segment (file 1600 50 ∷ area 42 ∷ []))
    (gives (ask_enter "A        " (pos 10) 0 3 0) 58 10 0 1 2
    ∷ gives (ask_close 0 3 (pos 7)) 58 7 0 1 2
    ∷ gives (ask_lookup "A        ") 58 7 0 1 2
    ∷ [])
    (50 ∷ 7 ∷ 35 ∷ [])
    ∷ run 100 (one_segment (file 1600 50 ∷ area 42 ∷ []))
    (gives (ask_enter "B        " (pos 10) 0 255 0) 58 10 0 1 2
    ∷ gives (ask_enter "C        " (pos 10) 2 255 0) 68 10 0 1 4
    ∷ gets (ask_enter "D        " (pos 10) 0 255 0) 10
    ∷ gives (ask_close 2 255 (pos 8)) 68 8 0 1 4
    ∷ gives (ask_close 0 255 (pos 7)) 58 7 0 1 2
    ∷ [])
    (50 ∷ 7 ∷ 3 ∷ 8 ∷ 24 ∷ [])
    ∷ dated 29 2 2000 0 3004
    ∷ dated 31 12 2003 0 13311
    ∷ dated 1 1 2004 0 17440
    ∷ dated 31 12 2099 0 62463
    ∷ dated 1 1 2100 9 0
    ∷ shown 3004 "29-02-2000"
    ∷ shown 17440 "01-01-2004"
    ∷ shown 62463 "31-12-2099"
    ∷ shown 16384 "----------"
    ∷ shown 0 "----------"
    ∷ run 100 (one_segment (file 1600 50 ∷ area 42 ∷ []))
    (gets (ask_enter "B        " (pos 10) 0 3 16384) 9
    ∷ gives (ask_enter "B        " (pos 10) 0 3 17440) 58 10 17440 1 2
    ∷ gives (ask_enter "C        " (pos 10) 0 4 62463) 68 10 62463 1 4
    ∷ gives (ask_close 0 3 (pos 7)) 58 7 17440 1 2
    ∷ gives (ask_lookup "B        ") 58 7 17440 1 2
    ∷ [])
    (50 ∷ 7 ∷ 3 ∷ 10 ∷ 22 ∷ [])
    ∷ run 100 (any_words 1)
    (gives (start 0) 8 92 0 1 1
    ∷ gives (ask_enter "A     X  " (pos 10) 0 1 0) 8 10 0 1 1
    ∷ gives (ask_close 0 1 (pos 10)) 8 10 0 1 1
    ∷ gives (ask_enter "ABCE     " (pos 10) 0 2 0) 18 10 0 1 2
    ∷ gives (ask_close 0 2 (pos 10)) 18 10 0 1 2
    ∷ gives (ask_enter "ABCD     " (pos 10) 0 3 0) 28 10 0 1 3
    ∷ gives (ask_close 0 3 (pos 10)) 28 10 0 1 3
    ∷ gives (ask_lookup "ABCE     ") 18 10 0 1 2
    ∷ gives (ask_rename "ABCD     " "B     X  ") 28 10 0 1 3
    ∷ gives (ask_delete "A     X  ") 8 10 0 1 1
    ∷ gives (ask_lookup "ABCE     ") 18 10 0 1 2
    ∷ [])
    (10 ∷ 10 ∷ 10 ∷ 62 ∷ [])
    ∷ run 90 full_segment
    (gives (ask_enter "DAY   CHG" (pos 3) 0 4 3556) 45 3 3556 1 37 ∷ [])
    (replicate 34 1 ++ 1 ∷ 0 ∷ 3 ∷ 7 ∷ replicate 35 1)
    ∷ run 90 files_and_area
    (gives (ask_enter "DAY   CHG" (pos 3) 0 4 3556) 80 3 3556 2 36
    ∷ gives (ask_enter "DAY1  CHG" (pos 3) 0 5 3556) 83 3 3556 2 38
    ∷ gives (ask_close 0 4 (pos 2)) 80 2 3556 2 36
    ∷ gives (ask_delete "DAY   CHG") 80 2 3556 2 36
    ∷ [])
    (replicate 70 1 ++ 2 ∷ 1 ∷ 3 ∷ 4 ∷ [])
    ∷ batched 100 (one_segment (file 1600 50 ∷ area 42 ∷ []))
    (gets (ask_delete "B        ") 13
    ∷ gives (ask_enter "C        " (pos 10) 0 3 0) 58 10 0 1 2
    ∷ gets (ask_close 0 3 (pos 31)) 16
    ∷ gives (ask_close 0 3 (pos 7)) 58 7 0 1 2
    ∷ gives (ask_lookup "C        ") 58 7 0 1 2
    ∷ gives (ask_delete "A        ") 8 50 0 1 1
    ∷ [])
    (50 ∷ 7 ∷ 35 ∷ [])
    ∷ faulty 100 (one_segment (file_named "FILE  BAD" 10 ∷ area 10 ∷ file_named "FILE  BAD" 10 ∷ file_named "FILE  BAD" 62 ∷ [])) 0
    ∷ faulty 100 (one_segment (file_named "FILE1 BAD" 10 ∷ area 10 ∷ file_named "FILE1 BAD" 72 ∷ [])) 6
    ∷ faulty 100 (one_segment (file_named "FILE     " 10 ∷ area 10 ∷ file_named "FILE     " 72 ∷ [])) 6
    ∷ faulty 100 (one_segment (file_named "ABCE  BAD" 10 ∷ area 10 ∷ file_named "ABCE  BAD" 72 ∷ [])) 6
    ∷ faulty 100 (one_segment (open_named "FILE  BAD" 10 3 ∷ area 10 ∷ open_named "FILE  BAD" 10 3 ∷ area 62 ∷ [])) 6
    ∷ run 100 (one_segment (file 1600 10 ∷ file_named "FILE  BAD" 5 ∷ file_named "FILE  BAD" 7 ∷ area 70 ∷ []))
    (gives (ask_lookup "FILE  BAD") 18 5 0 1 2
    ∷ gets (ask_delete "FILE  BAD") 19
    ∷ gets (ask_rename "FILE  BAD" "B B      ") 7
    ∷ gets (ask_rename "FILE  BAD" "A        ") 19
    ∷ gets (ask_rename "A        " "FILE  BAD") 19
    ∷ gets (ask_rename "B        " "FILE  BAD") 19
    ∷ gets (ask_enter "FILE  BAD" (negsuc 1) 1 256 1) 19
    ∷ gives (ask_rename "A        " "FILE1 BAD") 8 10 0 1 1
    ∷ gives (ask_delete "FILE1 BAD") 8 10 0 1 1
    ∷ gives (ask_lookup "FILE  BAD") 18 5 0 1 2
    ∷ [])
    (10 ∷ 5 ∷ 7 ∷ 70 ∷ [])
    ∷ run 100 (one_segment (file 1600 50 ∷ area 42 ∷ []))
    (gets (ask_lookup "FILE  BAD") 13 ∷ gets (ask_delete "FILE  BAD") 19 ∷ gets (ask_rename "FILE  BAD" "B        ") 19 ∷ [])
    (50 ∷ 42 ∷ [])
    ∷ run 100 (one_segment (file_named "FILE  BAD" 10 ∷ open_named "FILE  BAD" 20 3 ∷ area 20 ∷ open_named "FILE  BAD" 5 4 ∷ area 37 ∷ []))
    (gives (ask_close 0 3 (pos 15)) 18 15 0 1 2 ∷ gives (ask_close 0 4 (pos 5)) 58 5 0 1 4 ∷ gives (ask_lookup "FILE  BAD") 8 10 0 1 1 ∷ [])
    (10 ∷ 15 ∷ 25 ∷ 5 ∷ 37 ∷ [])
    ∷ run 100 (one_segment (open_named "FILE  BAD" 20 3 ∷ area 20 ∷ file_named "FILE  BAD" 10 ∷ area 42 ∷ []))
    (gives (ask_lookup "FILE  BAD") 48 10 0 1 3 ∷ gives (ask_close 0 3 (pos 20)) 8 20 0 1 1 ∷ gives (ask_lookup "FILE  BAD") 8 20 0 1 1 ∷ [])
    (20 ∷ 20 ∷ 10 ∷ 42 ∷ [])
    ∷ faulty 100 (one_segment (file_with 33792 "A        " 50 ∷ area 42 ∷ [])) 0
    ∷ faulty 100 (one_segment (file_with 33792 "A        " 50 ∷ file_named "A        " 42 ∷ [])) 6
    ∷ faulty 100 (one_segment (file_with 33024 "A        " 50 ∷ area 42 ∷ [])) 4
    ∷ faulty 100 (one_segment (file_with 33280 "A        " 50 ∷ area 42 ∷ [])) 4
    ∷ faulty 100 (one_segment (file_with 34816 "A        " 50 ∷ area 42 ∷ [])) 4
    ∷ faulty 100 (one_segment (file_with 32768 "A        " 50 ∷ area 42 ∷ [])) 4
    ∷ run 100 (one_segment (file_named "A        " 50 ∷ open_named "A        " 20 3 ∷ area 22 ∷ []))
    (gets (ask_protect "a        ") 7
    ∷ gets (ask_protect "FILE  BAD") 19
    ∷ gets (ask_unprotect "FILE  BAD") 19
    ∷ gets (ask_protect "B        ") 13
    ∷ gives (ask_protect "A        ") 8 50 0 1 1
    ∷ gives (ask_protect "A        ") 8 50 0 1 1
    ∷ gives (ask_lookup "A        ") 8 50 0 1 1
    ∷ gets (ask_delete "A        ") 20
    ∷ gets (ask_rename "A        " "B        ") 20
    ∷ gets (ask_rename "A        " "A        ") 20
    ∷ gets (ask_close 0 3 (pos 21)) 16
    ∷ gets (ask_close 0 3 (pos 20)) 20
    ∷ gets (ask_enter "A        " (pos 99) 0 3 0) 10
    ∷ gets (ask_enter "A        " (pos 99) 0 4 0) 20
    ∷ gives (ask_unprotect "A        ") 8 50 0 1 1
    ∷ gives (ask_unprotect "A        ") 8 50 0 1 1
    ∷ gives (ask_close 0 3 (pos 15)) 58 15 0 1 2
    ∷ gives (ask_delete "A        ") 58 15 0 1 2
    ∷ [])
    (50 ∷ 15 ∷ 27 ∷ [])
    ∷ run 100 (one_segment (file_named "A        " 50 ∷ file_with 33792 "B        " 20 ∷ area 22 ∷ []))
    (gets (ask_rename "A        " "B        ") 14
    ∷ gives (ask_enter "C        " (pos 5) 0 3 0) 78 5 0 1 3
    ∷ gives (ask_close 0 3 (pos 5)) 78 5 0 1 3
    ∷ gives (ask_unprotect "B        ") 58 20 0 1 2
    ∷ gives (ask_rename "B        " "D        ") 58 20 0 1 2
    ∷ [])
    (50 ∷ 20 ∷ 5 ∷ 17 ∷ [])
    ∷ run 100 (one_segment (file_with 33792 "FILE  BAD" 10 ∷ open_named "FILE  BAD" 20 3 ∷ area 20 ∷ file_with 33792 "FILE  BAD" 42 ∷ []))
    (gives (ask_close 0 3 (pos 15)) 18 15 0 1 2 ∷ gets (ask_delete "FILE  BAD") 19 ∷ gives (ask_lookup "FILE  BAD") 8 10 0 1 1 ∷ [])
    (10 ∷ 15 ∷ 25 ∷ 42 ∷ [])
    ∷ []

abbrev pub outcome : ℕ → List ℕ → Ask → Outcome
outcome v d (start e) = Requests.fresh v d e
outcome v d (request q) = serve v d q

unfoldable pub answered : Answer → Step → Bool
answered a s =
    eqb a.number s.number
    && eqb a.first s.first
    && eqb a.length s.length
    && eqb a.date s.date
    && eqb a.segment s.segment
    && eqb a.slot s.slot

-- a sound directory of these lengths
unfoldable pub left : ℕ → List ℕ → List ℕ → Bool
left v d ns = same_bytes (map blocks (all_entries d)) ns && eqb (fault v d) 0

-- each answer as the step says, and in the end a sound directory of these lengths
unfoldable pub runs : ℕ → List ℕ → List Step → List ℕ → Bool
runs v d [] ns = left v d ns
runs v d (s ∷ ss) ns =
    let o = outcome v d s.ask in
    answered o.answer s && runs v o.words ss ns

-- the requests that the steps make
abbrev pub requested : Ask → List Request → List Request
requested (start e) qs = qs
requested (request q) qs = q ∷ qs

unfoldable pub requests_in : List Step → List Request
requests_in [] = []
requests_in (s ∷ ss) = requested s.ask (requests_in ss)

-- room for the answers
unfoldable pub answer_room : List Step → List Answer
answer_room [] = []
answer_room (s ∷ ss) = refusal 0 ∷ answer_room ss

-- each answer as the step says
unfoldable pub all_answered : List Answer → List Step → Bool
all_answered [] [] = true
all_answered [] (s ∷ ss) = false
all_answered (a ∷ us) [] = false
all_answered (a ∷ us) (s ∷ ss) = let r = all_answered us ss in answered a s && r

-- as one batch: each answer as the step says, and what is left; 18 where there is no room for the answers
unfoldable pub batches : ℕ → List ℕ → List Step → List ℕ → Bool
batches v d ss ns =
    let b = batch v d (requests_in ss) (answer_room ss) in
    eqb b.number 0
    && all_answered b.answers ss
    && left v b.words ns
    && eqb (batch v d (requests_in ss) []).number 18

abbrev pub right : Case → Bool
right (words_for t a b c) =
    let w = words_of_text (bytes t) in
    eqb w.number 0 && eqb w.first a && eqb w.second b && eqb w.extension c
right (dated d m y number word) = let w = word_of_day d m y in eqb w.number number && eqb w.word word
right (shown word t) = same_bytes (date_text word) (bytes t)
right (run v d ss ns) = runs v d ss ns
right (batched v d ss ns) = batches v d ss ns
right (faulty v d k) = eqb (fault v d) k

unfoldable pub all_right : List Case → Bool
all_right [] = true
all_right (c ∷ cs) = let r = all_right cs in right c && r
