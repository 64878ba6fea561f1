-- One area noted, for each way through the code: an area that is not eligible leaves the two longest as they are; an eligible one
-- as long as the longest takes its place, and the longest becomes the second; a shorter one can only be the second. What is said
-- of areas long enough is one test in all three. Assumes nothing.
use Prim.Native.Nat.{ℕ, ◌≤◌, ◌<◌, max}
use mathlib.Core.Path.{◌≡◌}
use mathlib.Core.Bool.{Bool, true, false, ◌||◌, or-false}
use lib.Dec.{leb}
use borrow.Author.Tests.{le-leb, lt-leb}
use Rattle.survey.specs.Surveyed.{noted}
use Rattle.survey.specs.declared.areas.Survey.{Survey}

-- f the survey so far, n the area's length, m the least length; long and fit what is said of areas long enough afterwards
module _ (m : ℕ) (f : Survey) (n : ℕ) (eligible long : Bool) (l : long ≡ f.long || leb m n) where
  pub note_passed : eligible ≡ false
      → ◌≡◌ {A = Survey} (record { long = long; eligible = f.eligible; longest = f.longest; second = f.second })
      (noted m f n eligible)
  unfolding noted
  note_passed e = rw (e, l, or-false f.eligible)

  module _ (e : eligible ≡ true) (fit : Bool) (h : fit ≡ f.eligible || leb m n) where
    pub note_longest : f.longest ≤ n
        → ◌≡◌ {A = Survey} (record { long = long; eligible = fit; longest = n; second = f.longest }) (noted m f n eligible)
    unfolding noted
    note_longest k = rw (e, l, h, le-leb f.longest n k)

    pub note_second : n < f.longest → (second : ℕ) → second ≡ max f.second n
        → ◌≡◌ {A = Survey} (record { long = long; eligible = fit; longest = f.longest; second = second }) (noted m f n eligible)
    unfolding noted
    note_second k second s = rw (e, l, h, s, lt-leb f.longest n k)
