-- How many date words are good: antt computes the test at each of the 65,536 words. It stands here, and not beside the test, since it takes
-- longer than all of `dates`. Assumes nothing.
use Prim.Native.Nat.{ℕ, zero, suc, ◌+◌}
use mathlib.Core.Path.{◌≡◌, refl}
use mathlib.Core.Bool.{Bool, cond}
use Rattle.dates.specs.Dates.{years, month_lengths, is_leap, days_in, in_calendar, day_field, month_field, names_day, good_date}

-- at how many numbers below a bound a test passes
unfoldable pub count : (ℕ → Bool) → ℕ → ℕ
count f zero = 0
count f (suc n) = cond (f n) 1 0 + count f n

-- the days of 1972 to 2099, and word 0
pub good-words : count good_date 65536 ≡ 46753
unfolding years month_lengths is_leap days_in in_calendar day_field month_field names_day good_date count
good-words = refl
