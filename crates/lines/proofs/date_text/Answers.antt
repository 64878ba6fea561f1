-- `date_text` meets its contract: the day that is read tells whether the word names one (laws `dated`, `undated`), and the five writes
-- -- of a date add up (laws `both`, `and_one`).
use native.Mathlib.Omega.{arith}
use mathlib.Core.Path.{◌≡◌}
use lib.ListN.{length, length-set}
use Rattle.names.specs.Text.{bytes}
use Rattle.lines.proofs.Digits.{four_digits}
use Rattle.lines.proofs.Shown.{Dated, dated, undated}
use Rattle.lines.proofs.Writes.{both, and_one}
use Rattle.lines.proofs.date_text.Goals.{After-two_digits-year, Else-date-eq0}
use Rattle.lines.proofs.date_text.Goals as goal

pub returns-then-date-eq0 : goal.returns-then-date-eq0
unfolding bytes
returns-then-date-eq0 c =
    let r = c.day_of_word-date in
    let w = c.put_bytes.ensures in
    rw (undated c.args.word r.result r.ensures c.if-date-eq0.true) (record { wrote = w; short = omega arith })

-- what the day that was read tells of the word
date-at : (c : Else-date-eq0) → Dated c.args.word c.day_of_word-date.result
date-at c =
    let r = c.day_of_word-date in
    dated c.args.word r.result r.ensures c.if-date-eq0.false

pub two_digits-month-requires : goal.two_digits-month-requires
two_digits-month-requires c = ((date-at (goal.at.two_digits-month-requires c).Else-date-eq0).day, omega arith)

pub two_digits-year-requires : goal.two_digits-year-requires
two_digits-year-requires c = ((date-at (goal.at.two_digits-year-requires c).Else-date-eq0).month, rw length-set (omega arith))

-- the room is as long as it was, after the month too
long-at : (c : After-two_digits-year)
    → length c.two_digits-year.new.out
    ≡ length c.args.out.now
long-at c = let d = c.two_digits-month in omega (arith, length-set d.new.out d.result 45)

pub bounds-out-year : goal.bounds-out-year
bounds-out-year c = omega (arith, long-at (goal.at.bounds-out-year c).After-two_digits-year)

pub decimal-requires : goal.decimal-requires
decimal-requires c = (omega arith, rw length-set (omega (arith, long-at (goal.at.decimal-requires c).After-two_digits-year)))

pub shape_of-out : goal.shape_of-out
shape_of-out c =
    omega (arith, long-at (goal.at.shape_of-out c).After-two_digits-year, length-set c.two_digits-year.new.out c.two_digits-year.result 45)

pub returns : goal.returns
unfolding bytes
returns c =
    let d = date-at (goal.at.returns c).Else-date-eq0 in
    let y = four_digits c.day_of_word-date.result.year d.year in
    let day = and_one 45 c.two_digits-month.ensures.wrote (omega arith) in
    let month = and_one 45 (both day c.two_digits-year.ensures.wrote) (omega (arith, long-at (goal.at.returns c).After-two_digits-year)) in
    let year = c.decimal.ensures in
    rw d.text (record { wrote = both month year.wrote; short = omega arith })
