-- The ways an enter on a sound directory can end: refused by a number tested before those for room, by 11 or by 12, or with the
-- tentative entry before the first eligible area that is long enough. One case for each of its tests; after the last of them the choice
-- does find an area.
use Prim.Native.Nat.{ℕ}
use mathlib.Core.Path.{◌≡◌, refl, ap}
use mathlib.Core.Bool.{Bool, true, false, ◌&&◌, not}
use mathlib.Core.List.{List, map}
use mathlib.Core.Option.{Option, none, some}
use lib.IntN.{ℤ}
use Rattle.dates.specs.Dates.{good_date}
use Rattle.meaning.specs.declared.Name.{Name}
use Rattle.meaning.specs.Kinds.{tentative_status}
use Rattle.meaning.specs.Words.{slot_words, Entry, chain, Row}
use Rattle.meaning.specs.Keys.{spared}
use Rattle.meaning.specs.Sound.{fault}
use Rattle.meaning.specs.Answers.{Outcome, refuse, success, unless, is_none, open_on}
use Rattle.meaning.specs.Requests.{legal, good_channel, word_of, over_protected, entry_of}
use Rattle.meaning.specs.Enter.{Area, size_of, good_size, tidied, areas, eligibles, wanted, at_least, long_enough, first_fit, entered, entered_at, placed}
use Rattle.meaning.specs.Enter.{enter}
use Rattle.walks.proofs.Fits.{wanted-fits}
use Rattle.laws.specs.Refusals.{before_room, Among}
use Rattle.laws.proofs.Refusals.{among}

-- the directory tidied, its areas, and those that are eligible
abbrev pub tidied_of : List ℕ → List ℕ
tidied_of d = tidied d (chain d)

abbrev pub areas_of : List ℕ → List Area
areas_of d = areas (tidied d (chain d)) (chain d)

abbrev pub eligibles_of : List ℕ → List Area
eligibles_of d = eligibles (areas (tidied d (chain d)) (chain d))

-- the length that is taken, and the entry that is made
abbrev pub length_of : List ℕ → ℤ → ℕ
length_of d asked = wanted (size_of asked) (map (λ r. r.size) (eligibles_of d))

abbrev pub entry_for : List ℕ → Name → ℤ → ℕ → ℕ → ℕ → Entry
entry_for d name asked job channel date = entry_of (slot_words d) tentative_status name (length_of d asked) (word_of job channel) date

pub data Entering (d : List ℕ) (name : Name) (asked : ℤ) (job channel date : ℕ) (o : Outcome) : Type 0 where
  early : (m : ℕ) → Among m before_room → o ≡ refuse m d → Entering d name asked job channel date o
  short : long_enough (at_least (size_of asked)) (areas_of d) ≡ false → o ≡ refuse 11 d → Entering d name asked job channel date o
  crowded : long_enough (at_least (size_of asked)) (areas_of d) ≡ true → long_enough (at_least (size_of asked)) (eligibles_of d) ≡ false
      → o ≡ refuse 12 d → Entering d name asked job channel date o
  taken : (p : Area) → legal name ≡ true → open_on d (word_of job channel) ≡ none
      → long_enough (at_least (size_of asked)) (eligibles_of d) ≡ true → first_fit (length_of d asked) (eligibles_of d) ≡ some p
      → o
      ≡ success p.first (length_of d asked) date (entered_at (tidied_of d) p)
      (entered (tidied_of d) (entry_for d name asked job channel date) (length_of d asked) p)
      → Entering d name asked job channel date o

module _ (d : List ℕ) (name : Name) (asked : ℤ) (job channel date : ℕ) where
  abbrev Ends : Outcome → Type 0
  Ends o = Entering d name asked job channel date o

  abbrev last : Option Area → Outcome
  last p = placed d (tidied_of d) (length_of d asked) date (entry_for d name asked job channel date) p

  by_tests : (x7 : Bool) → legal name ≡ x7 → (x19 x8 x9 : Bool) (o : Option Row) → open_on d (word_of job channel) ≡ o
      → (x20 x11 : Bool) → long_enough (at_least (size_of asked)) (areas_of d) ≡ x11
      → (x12 : Bool) → long_enough (at_least (size_of asked)) (eligibles_of d) ≡ x12
      → Ends
      (unless 7 x7 d λ _.
      unless 19 x19 d λ _.
      unless 8 x8 d λ _.
      unless 9 x9 d λ _.
      unless 10 (is_none o) d λ _.
      unless 20 x20 d λ _.
      unless 11 x11 d λ _.
      unless 12 x12 d λ _.
      last (first_fit (length_of d asked) (eligibles_of d)))
  by_tests false e7 x19 x8 x9 o e10 x20 x11 e11 x12 e12 = early 7 (among 7 before_room refl) refl
  by_tests true e7 false x8 x9 o e10 x20 x11 e11 x12 e12 = early 19 (among 19 before_room refl) refl
  by_tests true e7 true false x9 o e10 x20 x11 e11 x12 e12 = early 8 (among 8 before_room refl) refl
  by_tests true e7 true true false o e10 x20 x11 e11 x12 e12 = early 9 (among 9 before_room refl) refl
  by_tests true e7 true true true (some r) e10 x20 x11 e11 x12 e12 = early 10 (among 10 before_room refl) refl
  by_tests true e7 true true true none e10 false x11 e11 x12 e12 = early 20 (among 20 before_room refl) refl
  by_tests true e7 true true true none e10 true false e11 x12 e12 = short e11 refl
  by_tests true e7 true true true none e10 true true e11 false e12 = crowded e11 e12 refl
  by_tests true e7 true true true none e10 true true e11 true e12 =
      let f = wanted-fits (size_of asked) (eligibles_of d) e12 in
      taken f.0 e7 e10 e12 f.1 (ap last f.1)

  pub entering : (v : ℕ) → fault v d ≡ 0 → Entering d name asked job channel date (enter v d name asked job channel date)
  unfolding enter
  entering v h =
      rw h
      (by_tests (legal name) refl (not (spared name)) (good_channel job channel) (good_size (size_of asked) && good_date date) (open_on d (word_of job channel)) refl
      (not (over_protected d name))
      (long_enough (at_least (size_of asked)) (areas_of d))
      refl
      (long_enough (at_least (size_of asked)) (eligibles_of d))
      refl)
