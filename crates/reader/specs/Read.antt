-- What the reader promises (document 01, "Requests", its last sentence).
use Rattle.std.specs.Prelude.{ℕ, zero, suc, ◌≡◌, Bool, true, false, cond, not, List, [], ◌∷◌, drop, eqb, Some, None}
use Rattle.std.specs.Prelude as std
use Rattle.std.proofs.Math.Option.{Option, none, some}
use Rattle.std.specs.Borrow.{Bor}
use Rattle.meaning.specs.Words.{Row, rows}
use Rattle.meaning.specs.Sound.{fault}
use Rattle.cursor.specs.Cursor.{seen_of, first_slot, step_at}
use Rattle.cursor.specs.declared.Cursor.{Cursor}
use Rattle.cursor.specs.declared.Seen.{Seen}
use Rattle.reader.specs.declared.Reader.{Reader}
use Rattle.reader.specs.declared.Read.{Read}
use Rattle.reader.specs.declared.Read.TheVariants.{Entry, End, Refused}

-- document 01's number for each case of what is read: 0, or that of the fault
abbrev pub number_of : Read → ℕ
number_of (Entry seen) = 0
number_of End = 0
number_of (Refused n) = n

-- and its values: those of the entry. The end and a refusal have none
abbrev pub values_of : Read → Option Seen
values_of (Entry seen) = some seen
values_of End = none
values_of (Refused n) = none

-- which of the two it is
abbrev pub is_refused : Read → Bool
is_refused (Entry seen) = false
is_refused End = false
is_refused (Refused n) = true

-- what is read has this number and these values, and is refused just where the number is not 0. So these two determine it
pub record Answers (r : Read) (number : ℕ) (values : Option Seen) : Type 0 where
  pub number_is : number_of r ≡ number
  pub values_are : values_of r ≡ values
  pub refused : is_refused r ≡ not (eqb number 0)

-- the entry that a step gives
abbrev pub seen_in : std.Option (Seen × Cursor) → Option Seen
seen_in (Some (seen, past)) = some seen
seen_in None = none

-- what stands at a place, for a reader whose number is k: a refused one has nothing to read
unfoldable pub read_at : List ℕ → Cursor → ℕ → Option Seen
read_at d c k = cond (eqb k 0) (seen_in (step_at d c)) none

-- a place after a step, or where it was at the end
abbrev pub past_step : std.Option (Seen × Cursor) → Cursor → Cursor
past_step (Some (seen, past)) c = past
past_step None c = c

-- the place n entries further on
unfoldable pub skipped : ℕ → List ℕ → Cursor → Cursor
skipped zero d c = c
skipped (suc n) d c = skipped n d (past_step (step_at d c) c)

-- the same for a reader whose number is k: a refused one stays
unfoldable pub place_after : List ℕ → Cursor → ℕ → ℕ → Cursor
place_after d c k n = cond (eqb k 0) (skipped n d c) c

-- a reader before all entries
abbrev pub opened : Bor (List ℕ) → ℕ → Reader
opened words v = record { words = words; cursor = first_slot words.now 1; number = fault v words.now }

-- a reader n entries further on
abbrev pub moved_by : Reader → ℕ → Reader
moved_by r n =
    record { words = r.words; cursor = place_after r.words.now r.cursor r.number n; number = r.number }

-- the first of some rows
abbrev pub first_row : List Row → Option Seen
first_row [] = none
first_row (r ∷ rs) = some (seen_of r)

-- the row that n others precede: walking from the start gives exactly the rows, in order, and then none; an unsound directory has none
unfoldable pub row_at : ℕ → List ℕ → ℕ → Option Seen
row_at v d n = cond (eqb (fault v d) 0) (first_row (drop n (rows d))) none
