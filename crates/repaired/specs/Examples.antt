-- Damaged directories, what is wrong with them and what the tool makes of them; and proposals from elsewhere, with what the test says of them.
-- Two tables, which antt computes (proofs/Examples.antt). The answers were worked out by hand.
use Rattle.std.specs.Prelude.{ℕ, ◌+◌, ◌-◌, Bool, true, ◌&&◌, List, [], ◌∷◌, ◌++◌, length, take, replicate, eqb}
use Rattle.names.specs.Text.{same_bytes}
use Rattle.meaning.specs.Kinds.{tentative_status, empty_status, permanent_status, protected_status, end_status}
use Rattle.meaning.specs.Words.{Entry}
use Rattle.meaning.specs.Sound.{fault}
use Rattle.repaired.specs.Kept.{accepts}
use Rattle.repaired.specs.Tool.{repair}

-- slots by the first word of a name and a length: a file, a tentative entry on channel word 0, an empty entry with this name word; an empty
-- entry with none; FILE.BAD; and the marker
abbrev pub file_slot : ℕ → ℕ → Entry
file_slot n l = permanent_status ∷ n ∷ 0 ∷ 0 ∷ l ∷ 0 ∷ 0 ∷ []

abbrev pub open_slot : ℕ → ℕ → Entry
open_slot n l = tentative_status ∷ n ∷ 0 ∷ 0 ∷ l ∷ 0 ∷ 0 ∷ []

abbrev pub turned_slot : ℕ → ℕ → Entry
turned_slot n l = empty_status ∷ n ∷ 0 ∷ 0 ∷ l ∷ 0 ∷ 0 ∷ []

abbrev pub free_slot : ℕ → Entry
free_slot l = turned_slot 0 l

abbrev pub file_bad_slot : ℕ → Entry
file_bad_slot l = permanent_status ∷ 9972 ∷ 8000 ∷ 3244 ∷ l ∷ 0 ∷ 0 ∷ []

abbrev pub end_slot : Entry
end_slot = end_status ∷ []

-- a file with status s whose other words are all its own
abbrev pub whole_slot : ℕ → Entry
whole_slot s = s ∷ 1600 ∷ 3200 ∷ 4800 ∷ 3 ∷ 6 ∷ 3556 ∷ []

-- a slot has 7 words and e extra ones
unfoldable pub spaced : ℕ → List Entry → List ℕ
spaced e [] = []
spaced e (x ∷ xs) = x ++ replicate (7 + e - length x) 0 ++ spaced e xs

-- a segment: total, link, H, extra words, start, and slots; then words 0
unfoldable pub segment_with : ℕ → ℕ → ℕ → ℕ → ℕ → List Entry → List ℕ
segment_with n link h e start xs = take 512 (n ∷ link ∷ h ∷ (e + e) ∷ start ∷ (spaced e xs ++ replicate 512 0))

-- a directory of one segment, begun at block b; of one with slots of 23 words, of which there are 22; and of two segments, begun at b and c
abbrev pub single : ℕ → List Entry → List ℕ
single b xs = segment_with 1 0 1 0 b xs

abbrev pub wide_single : ℕ → List Entry → List ℕ
wide_single b xs = segment_with 1 0 1 16 b xs

abbrev pub double : ℕ → List Entry → ℕ → List Entry → List ℕ
double b xs c ys = segment_with 2 2 2 0 b xs ++ segment_with 2 0 0 0 c ys

-- V, the fault's number, the words; and what the tool gives: its number and the words after
pub record Damaged : Type 0 where
  pub size : ℕ
  pub fault : ℕ
  pub words : List ℕ
  pub number : ℕ
  pub after : List ℕ

abbrev pub mends_to : ℕ → ℕ → List ℕ → List ℕ → Damaged
mends_to v f d w = record { size = v; fault = f; words = d; number = 0; after = w }

abbrev pub stays_with : ℕ → ℕ → List ℕ → ℕ → Damaged
stays_with v f d n = record { size = v; fault = f; words = d; number = n; after = d }

-- a row is right: the numbers and the words are as stated, and the test says of the words what the tool says
unfoldable pub mends_right : Damaged → Bool
mends_right c =
    let p = repair c.size c.words in
    eqb (fault c.size c.words) c.fault
    && eqb p.number c.number
    && same_bytes p.words c.after
    && eqb (accepts c.size c.words c.after) c.number

unfoldable pub all_mend : List Damaged → Bool
all_mend [] = true
all_mend (c ∷ cs) = let r = all_mend cs in mends_right c && r

-- two entries of FILE.BAD, in the chain that at block 20 before that at block 12; and in the order of their blocks
abbrev pub crossed : List ℕ
crossed =
    double 20 (free_slot 0 ∷ file_bad_slot 2 ∷ free_slot 4 ∷ end_slot ∷ []) 10 (free_slot 2 ∷ file_bad_slot 2 ∷ free_slot 6 ∷ end_slot ∷ [])

abbrev pub uncrossed : List ℕ
uncrossed =
    double 10 (free_slot 2 ∷ file_bad_slot 2 ∷ free_slot 6 ∷ end_slot ∷ []) 20 (free_slot 0 ∷ file_bad_slot 2 ∷ free_slot 8 ∷ end_slot ∷ [])

-- links that go round
abbrev pub ringed : List ℕ
ringed = segment_with 2 2 2 0 10 (free_slot 20 ∷ end_slot ∷ []) ++ segment_with 2 1 0 0 30 (end_slot ∷ [])

-- one channel opened twice
abbrev pub opened_twice : List ℕ
opened_twice = single 8 (open_slot 1 4 ∷ free_slot 0 ∷ open_slot 2 4 ∷ free_slot 14 ∷ end_slot ∷ [])

unfoldable pub damages : List Damaged
damages =
    -- the length of an empty entry was hit before a file that has its place from the next segment's start
    mends_to 40 5 (double 10 (file_slot 1 3 ∷ free_slot 9 ∷ end_slot ∷ []) 20 (file_slot 2 4 ∷ free_slot 9 ∷ end_slot ∷ []))
    (double 10 (file_slot 1 3 ∷ free_slot 7 ∷ end_slot ∷ []) 20 (file_slot 2 4 ∷ free_slot 16 ∷ end_slot ∷ []))
    -- an unreadable status: the marker in its place, the empty entry before it takes the rest
    ∷ mends_to 30 4 (single 8 (file_slot 1 3 ∷ free_slot 2 ∷ (7 ∷ 1 ∷ 1 ∷ 1 ∷ 5 ∷ []) ∷ file_slot 2 6 ∷ end_slot ∷ []))
    (single 8 (file_slot 1 3 ∷ free_slot 19 ∷ (2048 ∷ 1 ∷ 1 ∷ 1 ∷ 5 ∷ []) ∷ file_slot 2 6 ∷ end_slot ∷ []))
    -- the marker destroyed behind the last file, and blocks are left: no entry can take them
    ∷ stays_with 30 4 (single 8 (free_slot 2 ∷ file_slot 1 3 ∷ (0 ∷ []) ∷ [])) 22
    -- the same where the file ends at V
    ∷ mends_to 13 4 (single 8 (free_slot 2 ∷ file_slot 1 3 ∷ (0 ∷ []) ∷ [])) (single 8 (free_slot 2 ∷ file_slot 1 3 ∷ end_slot ∷ []))
    -- a tentative entry before a file is turned to empty; that its name spells nothing matters no more
    ∷ mends_to 30 4 (single 8 (open_slot 64000 4 ∷ file_slot 1 3 ∷ free_slot 15 ∷ end_slot ∷ []))
    (single 8 (turned_slot 64000 4 ∷ file_slot 1 3 ∷ free_slot 15 ∷ end_slot ∷ []))
    -- that a file's name spells nothing does
    ∷ stays_with 30 4 (single 8 (free_slot 4 ∷ file_slot 64000 3 ∷ free_slot 15 ∷ end_slot ∷ [])) 22
    -- all slots readable and no marker: it goes into the last slot, an empty entry's
    ∷ mends_to 11 4 (wide_single 8 (replicate 20 (free_slot 0) ++ file_slot 1 3 ∷ free_slot 19 ∷ []))
    (wide_single 8 (replicate 20 (free_slot 0) ++ file_slot 1 3 ∷ (2048 ∷ 0 ∷ 0 ∷ 0 ∷ 19 ∷ []) ∷ []))
    -- which is a file's
    ∷ stays_with 11 4 (wide_single 8 (replicate 21 (free_slot 0) ++ file_slot 1 3 ∷ [])) 22
    -- two files in the wrong order
    ∷ stays_with 30 5
    (double 20 (free_slot 0 ∷ file_slot 1 2 ∷ free_slot 4 ∷ end_slot ∷ []) 10 (free_slot 2 ∷ file_slot 2 2 ∷ free_slot 6 ∷ end_slot ∷ []))
    22
    -- two entries of FILE.BAD that look alike: each block is kept, in rising order
    ∷ mends_to 30 5 crossed uncrossed
    -- of different lengths, they can't change places
    ∷ stays_with 30 5
    (double 20 (free_slot 0 ∷ file_bad_slot 2 ∷ free_slot 4 ∷ end_slot ∷ []) 10 (free_slot 2 ∷ file_bad_slot 3 ∷ free_slot 5 ∷ end_slot ∷ []))
    22
    -- a protected file keeps its status, and all other words
    ∷ mends_to 30 5 (single 8 (whole_slot protected_status ∷ free_slot 9 ∷ end_slot ∷ []))
    (single 8 (whole_slot protected_status ∷ free_slot 19 ∷ end_slot ∷ []))
    -- a first block of 65,536 + 12: reduced by 65,536 it would fit
    ∷ stays_with 30 5 (double 10 (free_slot 0 ∷ end_slot ∷ []) 65535 (free_slot 13 ∷ file_slot 1 2 ∷ free_slot 16 ∷ end_slot ∷ [])) 22
    -- a sound directory, with a tentative entry
    ∷ stays_with 30 0 (single 8 (file_slot 1 3 ∷ open_slot 2 4 ∷ free_slot 15 ∷ end_slot ∷ [])) 0
    -- one channel opened twice, and V is wrong: both are turned to empty
    ∷ mends_to 31 5 opened_twice (single 8 (turned_slot 1 23 ∷ free_slot 0 ∷ turned_slot 2 0 ∷ free_slot 0 ∷ end_slot ∷ []))
    -- and nothing else: 6
    ∷ stays_with 30 6 opened_twice 6
    -- one name twice, and V is wrong
    ∷ stays_with 31 5 (single 8 (file_slot 1 4 ∷ free_slot 0 ∷ file_slot 1 4 ∷ free_slot 14 ∷ end_slot ∷ [])) 22
    -- the file's end is beyond V
    ∷ stays_with 30 5 (single 8 (file_slot 1 3 ∷ free_slot 15 ∷ file_slot 2 5 ∷ end_slot ∷ [])) 22
    -- files of no length share a first block with the next
    ∷ mends_to 31 5
    (single 8 (file_slot 1 0 ∷ file_slot 2 0 ∷ free_slot 3 ∷ file_slot 3 2 ∷ free_slot 1 ∷ file_slot 4 0 ∷ free_slot 2 ∷ end_slot ∷ []))
    (single 8 (file_slot 1 0 ∷ file_slot 2 0 ∷ free_slot 3 ∷ file_slot 3 2 ∷ free_slot 1 ∷ file_slot 4 0 ∷ free_slot 17 ∷ end_slot ∷ []))
    -- links that go round: 3
    ∷ stays_with 30 3 ringed 3
    ∷ []

-- V, a damaged directory, a proposal from elsewhere, and what the test says of it
pub record Offer : Type 0 where
  pub size : ℕ
  pub words : List ℕ
  pub proposed : List ℕ
  pub number : ℕ

abbrev pub offer : ℕ → List ℕ → List ℕ → ℕ → Offer
offer v d w n = record { size = v; words = d; proposed = w; number = n }

unfoldable pub tests_right : Offer → Bool
tests_right o = eqb (accepts o.size o.words o.proposed) o.number

unfoldable pub all_test : List Offer → Bool
all_test [] = true
all_test (o ∷ os) = let r = all_test os in tests_right o && r

-- a file from block 8 on, and too few free blocks behind it; begun at block 10
abbrev pub shrunk : List ℕ
shrunk = single 8 (whole_slot permanent_status ∷ free_slot 9 ∷ end_slot ∷ [])

abbrev pub misplaced : List ℕ
misplaced = single 10 (file_slot 1 3 ∷ free_slot 17 ∷ end_slot ∷ [])

unfoldable pub offers : List Offer
offers =
    -- what the tool would give, and something that it would not
    offer 30 shrunk (single 8 (whole_slot permanent_status ∷ free_slot 19 ∷ end_slot ∷ [])) 0
    ∷ offer 30 shrunk (single 8 (whole_slot permanent_status ∷ open_slot 2 4 ∷ free_slot 15 ∷ end_slot ∷ [])) 0
    -- as it was, which is not sound
    ∷ offer 30 shrunk shrunk 22
    -- sound for another V
    ∷ offer 30 shrunk (single 8 (whole_slot permanent_status ∷ free_slot 20 ∷ end_slot ∷ [])) 22
    -- sound, with one file more, or one less
    ∷ offer 30 shrunk (single 8 (whole_slot permanent_status ∷ file_slot 2 4 ∷ free_slot 15 ∷ end_slot ∷ [])) 22
    ∷ offer 30 shrunk (single 8 (free_slot 22 ∷ end_slot ∷ [])) 22
    -- sound, but the file has another status, name, length, date or first block
    ∷ offer 30 shrunk (single 8 (whole_slot protected_status ∷ free_slot 19 ∷ end_slot ∷ [])) 22
    ∷ offer 30 shrunk (single 8 ((1024 ∷ 1600 ∷ 3200 ∷ 4801 ∷ 3 ∷ 6 ∷ 3556 ∷ []) ∷ free_slot 19 ∷ end_slot ∷ [])) 22
    ∷ offer 30 shrunk (single 8 ((1024 ∷ 1600 ∷ 3200 ∷ 4800 ∷ 4 ∷ 6 ∷ 3556 ∷ []) ∷ free_slot 18 ∷ end_slot ∷ [])) 22
    ∷ offer 30 shrunk (single 8 ((1024 ∷ 1600 ∷ 3200 ∷ 4800 ∷ 3 ∷ 6 ∷ 3557 ∷ []) ∷ free_slot 19 ∷ end_slot ∷ [])) 22
    ∷ offer 30 shrunk (single 8 (free_slot 1 ∷ whole_slot permanent_status ∷ free_slot 18 ∷ end_slot ∷ [])) 22
    -- another channel word of a file is none of these
    ∷ offer 30 shrunk (single 8 ((1024 ∷ 1600 ∷ 3200 ∷ 4800 ∷ 3 ∷ 7 ∷ 3556 ∷ []) ∷ free_slot 19 ∷ end_slot ∷ [])) 0
    -- sound, with the file at its block, but for another N
    ∷ offer 30 misplaced (segment_with 2 0 1 0 10 (file_slot 1 3 ∷ free_slot 17 ∷ end_slot ∷ []) ++ replicate 512 0) 22
    -- FILE.BAD twice, alike and exchanged; once more than it stood there; and once less
    ∷ offer 30 crossed (double 10 (free_slot 2 ∷ file_bad_slot 2 ∷ free_slot 5 ∷ end_slot ∷ []) 19 (free_slot 1 ∷ file_bad_slot 2 ∷ free_slot 8 ∷ end_slot ∷ [])) 0
    ∷ offer 30 crossed (double 10 (free_slot 2 ∷ file_bad_slot 2 ∷ free_slot 6 ∷ end_slot ∷ []) 20 (file_bad_slot 2 ∷ file_bad_slot 2 ∷ free_slot 6 ∷ end_slot ∷ [])) 22
    ∷ offer 30 crossed (double 10 (free_slot 2 ∷ file_bad_slot 2 ∷ free_slot 16 ∷ end_slot ∷ []) 30 (free_slot 0 ∷ end_slot ∷ [])) 22
    -- damage 3, or 6, has its number, whatever is proposed
    ∷ offer 30 ringed (double 10 (free_slot 20 ∷ end_slot ∷ []) 30 (end_slot ∷ [])) 3
    ∷ offer 30 opened_twice (single 8 (free_slot 22 ∷ end_slot ∷ [])) 6
    -- a sound directory passes as it is
    ∷ offer 30 uncrossed uncrossed 0
    ∷ []
