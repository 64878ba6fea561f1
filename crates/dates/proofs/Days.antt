-- Laws of date words. A calendar day's month is at most 12 and its day at most 31, which one computed test shows of the whole table
-- of month lengths; so the fields of a day's word don't run into each other. And they are the whole word, so that a word and its day give
-- each other back. Assumes nothing.
use Prim.Native.Nat.{ℕ, ◌+◌, ◌*◌, ◌-◌, ◌/◌, ◌%◌, ◌≤◌, ◌<◌}
use native.Mathlib.Omega.{arith}
use mathlib.Core.Path.{◌≡◌, refl}
use mathlib.Core.Bool.{Bool, true, false, cond, ◌&&◌, or-true}
use mathlib.Core.Logic.{◌⊎◌, inl, inr, ⊎_elim}
use borrow.Author.Tests.{leb-true, eqb-true, eq-eqb, ne_eqb}
use lib.ListN.{get_or, get_or-eq_default}
use lib.Dec.{eqb, leb}
use Rattle.dates.specs.Dates.{years, month_lengths, is_leap, days_in, in_calendar, packed_day, day_field, month_field, names_day, good_date}
use Rattle.dates.specs.Dates.{word_of_day, day_of_word}
use Rattle.bools.proofs.Bools.{both, either, either_side}
use Rattle.bools.proofs.Below.{below}

-- the table's rule: no month is longer than 31 days, in leap years either
short : ℕ → Bool
short m = leb (get_or month_lengths m 0 + cond (eqb m 2) 1 0) 31

leap_day : (a l : Bool) → cond (a && l) 1 0 ≤ cond a 1 0
leap_day true true = omega arith
leap_day true false = omega arith
leap_day false l = omega arith

days_short : (m y : ℕ) → m < 13 → days_in m y ≤ 31
unfolding short days_in month_lengths
days_short m y h =
    omega
    (arith, leap_day (eqb m 2) (is_leap y), leb-true (get_or month_lengths m 0 + cond (eqb m 2) 1 0) 31 (below short 13 refl m h))

-- a month that the table doesn't have has no days
pub days_none : (m y : ℕ) → 12 < m → days_in m y ≡ 0
unfolding days_in month_lengths
days_none m y h =
    rw (ne_eqb m 2 (λ e. omega arith), get_or-eq_default month_lengths 0 {n = m} (omega arith))

-- a calendar day, taken apart
pub record Calendar (d m y : ℕ) : Type 0 where
  pub from : years.first ≤ y
  pub to : y ≤ years.last
  pub begun : 1 ≤ d
  pub within : d ≤ days_in m y
  pub month : m ≤ 12
  pub day : d ≤ 31

pub calendar_parts : (d m y : ℕ) → in_calendar d m y ≡ true → Calendar d m y
unfolding in_calendar
calendar_parts d m y h =
    let a = leb years.first y in
    let b = leb y years.last in
    let e = leb 1 d in
    let f = leb d (days_in m y) in
    let p = both (a && b && e) f h in
    let q = both (a && b) e p.0 in
    let r = both a b q.0 in
    let begun = leb-true 1 d q.1 in
    let within = leb-true d (days_in m y) p.1 in
    let month : m ≤ 12 = ⊎_elim (λ l. omega arith) (λ l. absurd (omega (arith, days_none m y l))) (either_side m 13) in
    record {
      from = leb-true years.first y r.0;
      to = leb-true y years.last r.1;
      begun = begun;
      within = within;
      month = month;
      day = omega (arith, days_short m y (omega arith));
    }

-- the fields of a day's word
pub record Fields (d m y : ℕ) : Type 0 where
  pub day : day_field (packed_day d m y) ≡ d
  pub month : month_field (packed_day d m y) ≡ m
  pub year : years.named (packed_day d m y) ≡ y

pub fields : (d m y : ℕ) → in_calendar d m y ≡ true → Fields d m y
unfolding day_field month_field packed_day years
fields d m y h =
    let c = calendar_parts d m y h in
    record { day = omega arith; month = omega arith; year = omega arith }

-- the days of 1972 to 2003 have the words that document 01 gives them
pub first_age : (d m y : ℕ) → y < 2004 → packed_day d m y ≡ m * 1024 + d * 32 + (y - 1972)
unfolding packed_day years
first_age d m y h = omega arith

pub word_named : (d m y : ℕ) → in_calendar d m y ≡ true → names_day (packed_day d m y) ≡ true
unfolding names_day
word_named d m y h =
    let f = fields d m y h in
    rw (f.day, f.month, f.year) h

-- what the year that a word names adds to the word of a day: the word's own age and low five bits
part-named : (w : ℕ) → years.part (years.named w) ≡ w / 16384 * 16384 + w % 32
unfolding years
part-named w = omega arith

-- a word cut below and above its day, and what is above the day cut below and above the month
day_above : (w : ℕ) → w ≡ w / 1024 * 1024 + w / 32 % 32 * 32 + w % 32
day_above w = omega arith

month_above : (w : ℕ) → w / 1024 * 1024 ≡ w / 16384 * 16384 + w / 1024 % 16 * 1024
month_above w = omega arith

-- every word is made of its fields
pub made_of_fields : (w : ℕ) → packed_day (day_field w) (month_field w) (years.named w) ≡ w
unfolding day_field month_field packed_day
made_of_fields w = omega (arith, part-named w, day_above w, month_above w)

-- a word that names a day is that day's word
pub named-parts : (w : ℕ) → names_day w ≡ true
    → (in_calendar (day_field w) (month_field w) (years.named w) ≡ true)
    × (packed_day (day_field w) (month_field w) (years.named w) ≡ w)
unfolding names_day
named-parts w h = (h, made_of_fields w)

-- A date word is good exactly when it is 0 or is the word of some calendar day
pub IsWordOfDay : ℕ → Type 0
IsWordOfDay w = (d : ℕ) × (m : ℕ) × (y : ℕ) × (in_calendar d m y ≡ true) × (packed_day d m y ≡ w)

pub good-is : (w : ℕ) → good_date w ≡ true → (w ≡ 0) ⊎ IsWordOfDay w
unfolding good_date IsWordOfDay
good-is w h =
    ⊎_elim (λ e. inl (eqb-true w 0 e))
    (λ n. inr (day_field w, month_field w, years.named w, (named-parts w n).0, (named-parts w n).1))
    (either (eqb w 0) (names_day w) h)

pub is-good : (w : ℕ) → (w ≡ 0) ⊎ IsWordOfDay w → good_date w ≡ true
unfolding good_date IsWordOfDay
is-good w h =
    ⊎_elim (λ e. rw (eq-eqb w 0 e)) (λ n. rw (← n.4, word_named n.0 n.1 n.2 n.3) (or-true (eqb (packed_day n.0 n.1 n.2) 0))) h

-- Day to word and back is the same day for every calendar day
pub day_word_day : (d m y : ℕ) → in_calendar d m y ≡ true
    → day_of_word (word_of_day d m y).word ≡ record { number = 0; day = d; month = m; year = y }
unfolding day_of_word word_of_day
day_word_day d m y h =
    let f = fields d m y h in
    rw (h, word_named d m y h, f.day, f.month, f.year)

-- Word to day and back is the same word for every good word that is not 0
pub word_day_word : (w : ℕ) → good_date w ≡ true → (w ≡ 0 → ⊥)
    → word_of_day (day_of_word w).day (day_of_word w).month (day_of_word w).year ≡ record { number = 0; word = w }
unfolding day_of_word word_of_day good_date
word_day_word w h z =
    ⊎_elim (λ e. absurd (z (eqb-true w 0 e)))
    (λ n. let p = named-parts w n in rw (n, p.0, p.1))
    (either (eqb w 0) (names_day w) h)
