-- What the finder promises: the first row of the directory that is looked for, as a place; and what requests make of it.
use Rattle.std.specs.Prelude.{ℕ, ◌≤◌, ◌≡◌, Bool, false, List, length, eqb, Some, None, Result, Ok, Err}
use Rattle.meaning.specs.Kinds.{protected_status}
use Rattle.meaning.specs.Words.{slot_words, rows}
use Rattle.meaning.specs.declared.Answer.{Answer}
use Rattle.meaning.specs.declared.Granted.{Granted}
use Rattle.meaning.specs.Answers.{Outcome, granted, refusal, on_row, find, write}
use Rattle.meaning.specs.Requests.{success_with, restating}
use Rattle.segment.specs.Finder.{Found, found_of, Inside}
use Rattle.meaning.specs.declared.Key.{Key}
use Rattle.meaning.specs.Keys.{holds}
use Rattle.segment.specs.declared.finder.Place.{Place}

-- the answer r for the directory d; and where a place is found, the words of its slot lie in the directory
pub record FoundEntry (r : Found) (d : List ℕ) (key : Key) : Type 0 where
  pub is : r ≡ found_of (find (holds key) (rows d))
  pub inside : Inside r (slot_words d) (length d)

-- a protected file was found
abbrev pub protected_at : Found → Bool
protected_at (Some p) = eqb p.status protected_status
protected_at None = false

-- the numbers of a place that an answer tells are words
pub record FitsWords (p : Place) : Type 0 where
  pub first : p.first ≤ 65535
  pub seg : p.seg ≤ 65535
  pub slot : p.slot ≤ 65535

-- the entry at a place, of n blocks; or of as many as before
abbrev pub entry_with : Place → ℕ → Granted
entry_with p n = record { first = p.first; length = n; date = p.date; position = record { segment = p.seg; slot = p.slot } }

abbrev pub entry_at : Place → Granted
entry_at p = entry_with p p.length

-- the answer of a success with the entry at a place, of n blocks afterwards; or of as many as before
abbrev pub answer_with : Place → ℕ → Answer
answer_with p n = granted p.first n p.date (record { segment = p.seg; slot = p.slot })

abbrev pub answer_at : Place → Answer
answer_at p = answer_with p p.length

-- the answer of a result, where a refusal of any kind has its number
abbrev pub told_by : {E : Type 0} → (E → ℕ) → Result Granted E → Answer
told_by number (Ok e) = granted e.first e.length e.date e.position
told_by number (Err r) = refusal (number r)

-- abandon, protect and unprotect, once nothing but a missing entry can refuse them
unfoldable pub restated : List ℕ → Key → ℕ → ℕ → Outcome
restated d key missing status = on_row missing (find (holds key) (rows d)) d λ r. success_with r (write d (restating r status))
