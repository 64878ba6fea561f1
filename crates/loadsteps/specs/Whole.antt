-- The answer and the memory of the whole input (document 02, Req 11), however it was cut: part by part, as Req 10 reads a stream. Counts are exact
-- here; what a counter of 64 bits shows of them is said last.
use Rattle.std.specs.Prelude.{ℕ, zero, suc, ◌+◌, cond, List, [], ◌∷◌, length, get_or, eqb, ltb}
use Rattle.loads.specs.Memory.{puts}
use Rattle.loads.specs.Blocks.{address_of, count_of, data_of, part_of}
use Rattle.loads.specs.Reading.{goes_on, rest_of}
use Rattle.loads.specs.declared.Loaded.{Loaded}
use Rattle.loads.specs.declared.Part.{Part}
use Rattle.loads.specs.declared.Part.TheVariants as parts
use Rattle.loadsteps.specs.Step.{capped}
use Rattle.loadsteps.specs.declared.Answer.{Answer}
use Rattle.loadsteps.specs.declared.Answer.TheVariants.{Provisional, Accepted, Refused}

-- "the offset of the byte that showed it (28, 29: the last byte of count, of address; 30: the input length)", from the first byte of the block s on.
-- At 27 it is the wrong byte, and at 31 the checksum, which stands behind header and data
unfoldable pub shown_at : ℕ → List ℕ → ℕ
shown_at k s =
    cond (eqb k 27) (cond (eqb (get_or s 0 0) 1) 1 0)
    (cond (eqb k 28) 3 (cond (eqb k 29) 5 (cond (eqb k 31) (count_of s) (length s))))

-- the data bytes of a part that are stored, "all that came before the fault": 27, 28 and 29 are shown before the data of their block; at 30 and 31
-- those data stand, as far as the input has them
abbrev pub held_of : Part → List ℕ → List ℕ
held_of parts.Gap s = []
held_of (parts.Block a n) s = data_of s
held_of (parts.End t) s = []
held_of (parts.Refused k) s = cond (ltb k 30) [] (data_of s)

-- what a part answers that the stream s begins with, at the offset o, with t data bytes stored
abbrev pub final_of : Part → List ℕ → ℕ → ℕ → Answer
final_of parts.Gap s t o = Provisional
final_of (parts.Block a n) s t o = Provisional
final_of (parts.End a) s t o = Accepted a
final_of (parts.Refused k) s t o = Refused k t (o + shown_at k s)

-- the answer of the stream s, which stands at the offset o of the input, with t data bytes stored before it, over a memory of l bytes. Its first k
-- bytes belong to the part before, and are passed
unfoldable pub report_from : ℕ → ℕ → ℕ → ℕ → List ℕ → Answer
report_from l k t o [] = Refused 30 t o
report_from l (suc k) t o (b ∷ s) = report_from l k t (o + 1) s
report_from l zero t o (b ∷ s) =
    let part = part_of l (b ∷ s) in
    let held = t + length (held_of part (b ∷ s)) in
    let r = report_from l (rest_of part) held (o + 1) s in
    cond (goes_on part) r (final_of part (b ∷ s) held o)

-- the memory m after it: "exactly those stores"
unfoldable pub stored_from : ℕ → ℕ → List ℕ → List ℕ → List ℕ
stored_from l k [] m = m
stored_from l (suc k) (b ∷ s) m = stored_from l k s m
stored_from l zero (b ∷ s) m =
    let part = part_of l (b ∷ s) in
    let held = puts (address_of (b ∷ s)) (held_of part (b ∷ s)) m in
    let r = stored_from l (rest_of part) s held in
    cond (goes_on part) r held

-- the answer when the caller has said that the input s has ended, with exact counts
unfoldable pub report : ℕ → List ℕ → Answer
report l s = report_from l 0 0 0 s

-- the answer before: "Refusal 30 is given only when the caller says that the input has ended", until then it is provisional
abbrev pub until_end : Answer → Answer
until_end Provisional = Provisional
until_end (Accepted a) = Accepted a
until_end (Refused k t o) = cond (eqb k 30) Provisional (Refused k t o)

-- the number and the transfer address of an answer, as Req 10 has them
abbrev pub loaded_of : Answer → Loaded
loaded_of Provisional = record { number = 30; transfer = 0 }
loaded_of (Accepted a) = record { number = 0; transfer = a }
loaded_of (Refused k t o) = record { number = k; transfer = 0 }

-- what counters of 64 bits show of an answer
abbrev pub in_counters : Answer → Answer
in_counters Provisional = Provisional
in_counters (Accepted a) = Accepted a
in_counters (Refused k t o) = Refused k (capped t) (capped o)
