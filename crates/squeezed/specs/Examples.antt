-- Worked examples of squeeze, which antt computes (proofs/Examples.antt). The answers were worked out by hand.
use Rattle.std.specs.Prelude.{ℕ, zero, suc, ◌+◌, Bool, true, ◌&&◌, List, [], ◌∷◌, ◌++◌, replicate, eqb}
use Rattle.names.specs.Text.{same_bytes}
use Rattle.meaning.specs.declared.Name.{Name}
use Rattle.meaning.specs.Kinds.{tentative_status, empty_status, permanent_status, protected_status}
use Rattle.meaning.specs.Words.{Entry}
use Rattle.meaning.specs.Keys.{file_bad}
use Rattle.meaning.specs.Requests.{entry_of, empty_entry, render}
use Rattle.squeezed.specs.Moves.{applied}
use Rattle.squeezed.specs.Squeeze.{moves, squeeze}

abbrev pub called : ℕ → Name
called a = record { first = a; second = 0; extension = 0 }

-- entries of seven words: an empty one with words that don't matter, and one with no other words; a file by the first word of its name, and
-- a protected one; FILE.BAD, and a protected one; an open file
abbrev pub empty : ℕ → Entry
empty n = entry_of 7 empty_status (record { first = 1; second = 2; extension = 3 }) n 4 5

abbrev pub gap : ℕ → Entry
gap n = empty_entry 7 n

abbrev pub stored : ℕ → ℕ → Entry
stored a n = entry_of 7 permanent_status (called a) n 0 3556

abbrev pub guarded : ℕ → ℕ → Entry
guarded a n = entry_of 7 protected_status (called a) n 6 3556

abbrev pub bad : ℕ → Entry
bad n = entry_of 7 permanent_status file_bad n 0 0

abbrev pub guarded_bad : ℕ → Entry
guarded_bad n = entry_of 7 protected_status file_bad n 0 0

abbrev pub writing : ℕ → Entry
writing n = entry_of 7 tentative_status (called 1600) n 3 0

-- one segment of entries; two segments, the second of which begins at block b; three, in the order 1, 3, 2
abbrev pub one : List Entry → List ℕ
one es = render (1 ∷ 0 ∷ 1 ∷ 0 ∷ 8 ∷ []) es

abbrev pub two : List Entry → ℕ → List Entry → List ℕ
two es b fs = render (2 ∷ 2 ∷ 2 ∷ 0 ∷ 10 ∷ []) es ++ render (2 ∷ 0 ∷ 0 ∷ 0 ∷ b ∷ []) fs

abbrev pub three : List Entry → ℕ → List Entry → ℕ → List Entry → List ℕ
three es b fs c gs =
    render (3 ∷ 3 ∷ 3 ∷ 0 ∷ 12 ∷ []) es ++ render (3 ∷ 0 ∷ 0 ∷ 0 ∷ c ∷ []) gs ++ render (3 ∷ 2 ∷ 0 ∷ 0 ∷ b ∷ []) fs

-- two segments with slots of 23 words, of which 21 hold entries: in the first n free blocks and a file of one block, in the second so many
-- entries FILE.BAD, all of length 0
abbrev pub crowded : ℕ → List ℕ
crowded n =
    render (2 ∷ 2 ∷ 2 ∷ 32 ∷ 10 ∷ []) (empty_entry 23 4 ∷ entry_of 23 permanent_status (called 1600) 1 0 0 ∷ [])
    ++ render (2 ∷ 0 ∷ 0 ∷ 32 ∷ 15 ∷ []) (replicate n (entry_of 23 permanent_status file_bad 0 0 0))

abbrev pub packed_crowd : ℕ → List ℕ
packed_crowd n =
    render (2 ∷ 2 ∷ 2 ∷ 32 ∷ 10 ∷ []) (entry_of 23 permanent_status (called 1600) 1 0 0 ∷ [])
    ++ render (2 ∷ 0 ∷ 0 ∷ 32 ∷ 11 ∷ []) (empty_entry 23 4 ∷ replicate n (entry_of 23 permanent_status file_bad 0 0 0))

-- V, the words, the words of the lent list; and what comes out: the number, the count, the list, the words
pub record Trial : Type 0 where
  pub size : ℕ
  pub words : List ℕ
  pub room : List ℕ
  pub number : ℕ
  pub count : ℕ
  pub list : List ℕ
  pub after : List ℕ

unfoldable pub holds_so : Trial → Bool
holds_so c =
    let r = squeeze c.size c.words c.room in
    eqb r.number c.number
    && eqb r.count c.count
    && same_bytes r.list c.list
    && same_bytes r.words c.after

unfoldable pub all_so : List Trial → Bool
all_so [] = true
all_so (c ∷ cs) = let r = all_so cs in holds_so c && r

-- a squeeze that is carried out, and one that is refused, which leaves list and words
abbrev pub done : ℕ → List ℕ → List ℕ → ℕ → List ℕ → List ℕ → Trial
done v d room count list after =
    record { size = v; words = d; room = room; number = 0; count = count; list = list; after = after }

abbrev pub no : ℕ → List ℕ → List ℕ → ℕ → Trial
no v d room number = record { size = v; words = d; room = room; number = number; count = 0; list = room; after = d }

-- the worked vector of the request: A 3, empty 2, B 4, empty 1, FILE.BAD 2, empty 3, C 5, empty 2 on 30 blocks
abbrev pub depot : List ℕ
depot = one (stored 1600 3 ∷ empty 2 ∷ stored 3200 4 ∷ empty 1 ∷ bad 2 ∷ empty 3 ∷ stored 4800 5 ∷ empty 2 ∷ [])

abbrev pub packed_depot : List ℕ
packed_depot = one (stored 1600 3 ∷ stored 3200 4 ∷ gap 3 ∷ bad 2 ∷ stored 4800 5 ∷ gap 5 ∷ [])

-- its volume, each block holding its own number, once the moves are done: B stands from block 11 on, C from block 20 on, and the blocks of A,
-- FILE.BAD and all others are as they were
unfoldable pub row : ℕ → ℕ → List ℕ
row b zero = []
row b (suc n) = b ∷ row (b + 1) n

unfoldable pub depot_moved : Bool
depot_moved = same_bytes (applied 0 (moves depot) (row 0 30)) (row 0 11 ++ row 13 4 ++ row 15 5 ++ row 23 5 ++ row 25 5)

-- an open file before one that would move
abbrev pub busy : List ℕ
busy = one (writing 3 ∷ empty 2 ∷ stored 3200 4 ∷ [])

unfoldable pub trials : List Trial
trials =
    done 30 depot (7 ∷ 7 ∷ 7 ∷ 7 ∷ 7 ∷ 7 ∷ 9 ∷ []) 2 (13 ∷ 11 ∷ 4 ∷ 23 ∷ 20 ∷ 5 ∷ 9 ∷ []) packed_depot
    ∷ done 30 packed_depot [] 0 [] packed_depot
    ∷ no 30 depot (7 ∷ 7 ∷ 7 ∷ 7 ∷ 7 ∷ []) 24
    ∷ no 31 depot [] 5
    ∷ no 17 busy [] 21
    -- a file of length 0 changes place without a move, and what is left over crosses from the first segment to the second
    ∷ done 40 (two (empty 6 ∷ stored 1600 3 ∷ []) 19 (stored 3200 0 ∷ empty 1 ∷ bad 2 ∷ empty 18 ∷ [])) (7 ∷ 7 ∷ 7 ∷ []) 1
    (16 ∷ 10 ∷ 3 ∷ [])
    (two (stored 1600 3 ∷ []) 13 (stored 3200 0 ∷ gap 7 ∷ bad 2 ∷ gap 18 ∷ []))
    -- a protected file moves with all its words; a protected FILE.BAD of length 0 stays, and no file passes it
    ∷ done 20 (one (empty 2 ∷ guarded 1600 3 ∷ empty 1 ∷ guarded_bad 0 ∷ empty 1 ∷ stored 3200 2 ∷ empty 3 ∷ []))
    (7 ∷ 7 ∷ 7 ∷ 7 ∷ 7 ∷ 7 ∷ []) 2 (10 ∷ 8 ∷ 3 ∷ 15 ∷ 14 ∷ 2 ∷ [])
    (one (guarded 1600 3 ∷ gap 3 ∷ guarded_bad 0 ∷ stored 3200 2 ∷ gap 4 ∷ []))
    -- the chain's last segment is not the highest
    ∷ done 21 (three (empty 2 ∷ stored 1600 1 ∷ []) 15 (stored 3200 1 ∷ empty 1 ∷ []) 17 (stored 4800 1 ∷ empty 3 ∷ []))
    (7 ∷ 7 ∷ 7 ∷ 7 ∷ 7 ∷ 7 ∷ 7 ∷ 7 ∷ 7 ∷ []) 3 (14 ∷ 12 ∷ 1 ∷ 15 ∷ 13 ∷ 1 ∷ 17 ∷ 14 ∷ 1 ∷ [])
    (three (stored 1600 1 ∷ []) 13 (stored 3200 1 ∷ []) 14 (stored 4800 1 ∷ gap 6 ∷ []))
    -- 20 entries leave a slot for what is left over, 21 do not; 24 is tested before 26
    ∷ done 15 (crowded 20) (7 ∷ 7 ∷ 7 ∷ []) 1 (14 ∷ 10 ∷ 1 ∷ []) (packed_crowd 20)
    ∷ no 15 (crowded 21) (7 ∷ 7 ∷ 7 ∷ []) 26
    ∷ no 15 (crowded 21) (7 ∷ 7 ∷ []) 24
    ∷ []
