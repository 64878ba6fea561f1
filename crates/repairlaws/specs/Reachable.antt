-- The changes that the tool may make (document 02, Req 09), as plain propositions; what the test asks; and what is to be shown of test and tool
-- (proofs/Laws.antt, proofs/Rows.antt).
use Rattle.std.specs.Prelude.{ℕ, ◌+◌, ◌*◌, ◌≤◌, ◌<◌, ◌≡◌, ◌⊎◌, ◌↔◌, true, false, cond, length, get_or, drop}
use mathlib.Core.List.{List, [], ◌∷◌, Permᴰ}
use Rattle.meaning.specs.declared.Kind.TheVariants.{Tentative, Empty, End, Unknown}
use Rattle.meaning.specs.Kinds.{is_permanent}
use Rattle.meaning.specs.Words.{segment, slot_words, slot_count, Entry, kind, slots, chain, Row, rows}
use Rattle.meaning.specs.Sound.{fault, times}
use Rattle.walks.specs.Lists.{All}
use Rattle.rules.specs.Sound.{IsEntry, Rules}
use Rattle.repaired.specs.Kept.{KeptFile, kept_at, kept_files, beyond, accepts}
use Rattle.repaired.specs.Tool.{marked, emptied, repair}

-- what the changes can make of a segment's slots
pub data Mended : List Entry → List Entry → Type 0 where
  none : Mended [] []
  -- a marker or an unreadable status may stay, and what is behind it stays
  stop : {e : Entry} {es : List Entry} → (kind e ≡ End) ⊎ (kind e ≡ Unknown) → Mended (e ∷ es) (e ∷ es)
  -- the marker in place of the first unreadable status
  mark : {e : Entry} {es : List Entry} → kind e ≡ Unknown → Mended (e ∷ es) (marked e ∷ es)
  -- or in the last slot, if all are readable and none is a marker
  last : {e : Entry} → IsEntry (kind e) → Mended (e ∷ []) (marked e ∷ [])
  -- an entry may stay
  stay : {e : Entry} {es fs : List Entry} → IsEntry (kind e) → Mended es fs → Mended (e ∷ es) (e ∷ fs)
  -- a tentative entry may be turned to empty, and the length of an empty entry set
  turn : {e : Entry} {es fs : List Entry} (n : ℕ) → (kind e ≡ Tentative) ⊎ (kind e ≡ Empty) → Mended es fs
      → Mended (e ∷ es) (emptied n e ∷ fs)

-- of a segment of the chain: its start may be set, and its slots be mended
pub record MendedAt (d w : List ℕ) (s : ℕ) : Type 0 where
  pub heads : (j : ℕ) → j < 4 → get_or (segment w s) j 0 ≡ get_or (segment d s) j 0
  pub slots : Mended (slots (slot_words d) (segment d s)) (slots (slot_words d) (segment w s))
  pub behind : drop (5 + slot_count (slot_words d) * slot_words d) (segment w s) ≡ drop (5 + slot_count (slot_words d) * slot_words d) (segment d s)

-- the directory w can be reached from d
pub record Reachable (d w : List ℕ) : Type 0 where
  pub size : length w ≡ length d
  pub each : All (MendedAt d w) (chain d)
  pub others : (k : ℕ) → 1 ≤ k → times k (chain d) ≡ 0 → segment w k ≡ segment d k

-- the permanent ones among rows, as what they keep
unfoldable pub row_files : List Row → List KeptFile
row_files [] = []
row_files (r ∷ rs) = let l = row_files rs in cond (is_permanent (kind r.entry)) (kept_at r.first r.entry ∷ l) l

-- of a sound directory, and so of a proposal that passes, the files to be kept are all its permanent entries, with their first blocks
abbrev pub AllKept : ℕ → List ℕ → Type 0
AllKept v d = fault v d ≡ 0 → kept_files d ≡ row_files (rows d)

-- what the test asks of a proposal: it is sound for the same N and V, and its permanent entries are those to be kept, each with its status,
-- name, length, date and first block, in whatever order
pub record Passing (v : ℕ) (d w : List ℕ) : Type 0 where
  pub size : length w ≡ length d
  pub sound : Rules v w
  pub files : Permᴰ (kept_files d) (kept_files w)

-- the laws of the test: damage 1 to 3 or 6 has its number; else a proposal is accepted exactly when it is as asked, and rejected with 22
pub record Tests (v : ℕ) (d w : List ℕ) : Type 0 where
  pub answered : beyond (fault v d) ≡ true → accepts v d w ≡ fault v d
  pub accepted : beyond (fault v d) ≡ false → (accepts v d w ≡ 0) ↔ Passing v d w
  pub rejected : beyond (fault v d) ≡ false → (Passing v d w → ⊥) → accepts v d w ≡ 22

-- the laws of the tool
pub record Repairs (v : ℕ) (d : List ℕ) : Type 0 where
  -- what it gives passes the test, and can be reached
  pub passes : (repair v d).number ≡ 0 → accepts v d (repair v d).words ≡ 0
  pub reached : (repair v d).number ≡ 0 → Reachable d (repair v d).words
  -- it gives 0 if anything that can be reached passes the test
  pub complete : (w : List ℕ) → Reachable d w → accepts v d w ≡ 0 → (repair v d).number ≡ 0
  -- a sound directory comes back unchanged, and so what it gave
  pub kept : fault v d ≡ 0 → repair v d ≡ record { number = 0; words = d }
  pub again : (repair v d).number ≡ 0 → repair v (repair v d).words ≡ record { number = 0; words = (repair v d).words }
  -- a refusal leaves the words as they were
  pub refused : ((repair v d).number ≡ 0 → ⊥) → (repair v d).words ≡ d
  -- damage 1 to 3 or 6 has its number; else it gives 22 exactly when nothing that can be reached passes, and otherwise 0
  pub answered : beyond (fault v d) ≡ true → (repair v d).number ≡ fault v d
  pub numbers : beyond (fault v d) ≡ false → ((repair v d).number ≡ 0) ⊎ ((repair v d).number ≡ 22)
  pub hopeless : beyond (fault v d) ≡ false → ((repair v d).number ≡ 22) ↔ ((w : List ℕ) → Reachable d w → accepts v d w ≡ 0 → ⊥)
