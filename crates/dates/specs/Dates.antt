-- Date words (document 01, "Names and dates"; the years and the age are document 02's, Req 02).
use Rattle.std.specs.Prelude.{ℕ, ◌+◌, ◌*◌, ◌-◌, ◌/◌, ◌%◌, Bool, cond, ◌&&◌, ◌||◌, not, List, [], ◌∷◌, get_or, eqb, leb}
use Rattle.dates.specs.declared.DayWord.{DayWord}
use Rattle.dates.specs.declared.WordDay.{WordDay}

-- The years that a date word can name: the first and the last, what a year adds to the word, and the year that a word names
pub record Years : Type 0 where
  pub first : ℕ
  pub last : ℕ
  pub part : ℕ → ℕ
  pub named : ℕ → ℕ

-- A word's top two bits are the age, of 32 years: a word names the year 1972 + 32 * age + its low five bits
unfoldable pub years : Years
years =
    record {
      first = 1972;
      last = 2099;
      part = λ year. (year - 1972) / 32 * 16384 + (year - 1972) % 32;
      named = λ word. 1972 + 32 * (word / 16384) + word % 32;
    }

-- the table of month lengths, by month; there is no month 0
unfoldable pub month_lengths : List ℕ
month_lengths = 0 ∷ 31 ∷ 28 ∷ 31 ∷ 30 ∷ 31 ∷ 30 ∷ 31 ∷ 31 ∷ 30 ∷ 31 ∷ 30 ∷ 31 ∷ []

-- a leap year: one that 400 divides, or that 4 divides and 100 does not
unfoldable pub is_leap : ℕ → Bool
is_leap year = eqb (year % 400) 0 || (not (eqb (year % 100) 0) && eqb (year % 4) 0)

-- February has a day more in a leap year; a month that the table doesn't have has no days
unfoldable pub days_in : ℕ → ℕ → ℕ
days_in month year = get_or month_lengths month 0 + cond (eqb month 2 && is_leap year) 1 0

-- a calendar day
unfoldable pub in_calendar : ℕ → ℕ → ℕ → Bool
in_calendar day month year =
    leb years.first year && leb year years.last && leb 1 day && leb day (days_in month year)

-- the word of a day: the month above the day, and what the year adds
unfoldable pub packed_day : ℕ → ℕ → ℕ → ℕ
packed_day day month year = month * 1024 + day * 32 + years.part year

-- the fields of a date word
unfoldable pub day_field : ℕ → ℕ
day_field word = word / 32 % 32

unfoldable pub month_field : ℕ → ℕ
month_field word = word / 1024 % 16

-- a word names the day of its fields, where that is in the calendar
unfoldable pub names_day : ℕ → Bool
names_day word = in_calendar (day_field word) (month_field word) (years.named word)

-- a date word is good where it names a day, or is 0, which stands for no date
unfoldable pub good_date : ℕ → Bool
good_date word = eqb word 0 || names_day word

-- the word of a calendar day; for any other numbers 9
unfoldable pub word_of_day : ℕ → ℕ → ℕ → DayWord
word_of_day day month year =
    cond (in_calendar day month year)
    (record { number = 0; word = packed_day day month year })
    (record { number = 9; word = 0 })

-- the day that a word names; word 0 names none, and is no error; all other words are 9
unfoldable pub day_of_word : ℕ → WordDay
day_of_word word =
    cond (names_day word)
    (record { number = 0; day = day_field word; month = month_field word; year = years.named word })
    (record { number = cond (eqb word 0) 0 9; day = 0; month = 0; year = 0 })
