-- The reader of load files (document 02, Req 10): a stream is read part by part, until the end block or the first refusal.
use Rattle.std.specs.Prelude.{ℕ, zero, suc, ◌+◌, Bool, true, false, cond, List, [], ◌∷◌, eqb}
use Rattle.loads.specs.Memory.{limit, puts}
use Rattle.loads.specs.Blocks.{data_of, part_of}
use Rattle.loads.specs.declared.Part.{Part}
use Rattle.loads.specs.declared.Part.TheVariants.{Gap, Block, End, Refused}
use Rattle.loads.specs.declared.Loaded.{Loaded}

-- the stream goes on after this part
abbrev pub goes_on : Part → Bool
goes_on Gap = true
goes_on (Block a n) = true
goes_on (End t) = false
goes_on (Refused k) = false

-- how many bytes the part has after its first: a block of n data bytes has n + 7 in all
abbrev pub rest_of : Part → ℕ
rest_of Gap = 0
rest_of (Block a n) = n + 6
rest_of (End t) = 0
rest_of (Refused k) = 0

-- what a part answers: only the end block ends the file
abbrev pub answer_of : Part → Loaded
answer_of Gap = record { number = 30; transfer = 0 }
answer_of (Block a n) = record { number = 30; transfer = 0 }
answer_of (End t) = record { number = 0; transfer = t }
answer_of (Refused k) = record { number = k; transfer = 0 }

-- what is stored of a part, which the stream s begins with
abbrev pub stored_by : Part → List ℕ → List ℕ → List ℕ
stored_by Gap s m = m
stored_by (Block a n) s m = puts a (data_of s) m
stored_by (End t) s m = m
stored_by (Refused k) s m = m

-- the answer of a stream over a memory of l bytes. Its first k bytes belong to the part before, and are passed
unfoldable pub read_from : ℕ → ℕ → List ℕ → Loaded
read_from l k [] = answer_of (Refused 30)
read_from l (suc k) (b ∷ s) = read_from l k s
read_from l zero (b ∷ s) =
    let part = part_of l (b ∷ s) in
    let r = read_from l (rest_of part) s in
    cond (goes_on part) r (answer_of part)

-- the memory m with the data of all blocks, each stored over what came before it
unfoldable pub fill_from : ℕ → ℕ → List ℕ → List ℕ → List ℕ
fill_from l k [] m = m
fill_from l (suc k) (b ∷ s) m = fill_from l k s m
fill_from l zero (b ∷ s) m =
    let part = part_of l (b ∷ s) in
    let r = fill_from l (rest_of part) s (stored_by part (b ∷ s) m) in
    cond (goes_on part) r m

-- number and transfer address of the stream s over the memory m
unfoldable pub load_answer : List ℕ → List ℕ → Loaded
load_answer s m = read_from (limit m) 0 s

-- the memory after it: on a refusal "Memory is then unchanged"
unfoldable pub load_memory : List ℕ → List ℕ → List ℕ
load_memory s m = cond (eqb (load_answer s m).number 0) (fill_from (limit m) 0 s m) m
