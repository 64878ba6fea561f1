-- A walk over a segment's entries that keeps an open run by its sum. The sum and the lengths ahead are never more than the lengths of the
-- segment, so the sum fits a word. What the walk has counted, or surveyed, with the entries ahead is what all entries give; each turn
-- takes the first of them. Assumes nothing.
use Prim.Native.Nat.{ℕ, ◌+◌, ◌*◌, ◌≤◌}
use mathlib.Core.Path.{◌≡◌, refl, ap, ◌∙◌}
use mathlib.Core.Bool.{Bool, true, false, cond}
use mathlib.Core.List.{List, [], ◌∷◌}
use native.Mathlib.Omega.{arith}
use lib.ListN.{length}
use Rattle.meaning.specs.declared.Kind.{Kind}
use Rattle.meaning.specs.Kinds.{is_tentative, is_empty}
use Rattle.meaning.specs.Words.{Entry, kind, blocks, slots, upto, total}
use Rattle.walks.proofs.Slots.{entries-count, most-slots}
use Rattle.tidy.specs.Tidied.{Tidyable}
use Rattle.survey.specs.Runs.{sum_so_far, absorbed, after, leaves, lets, count_runs, Outlined}
use Rattle.survey.specs.Surveyed.{settled, met, survey_runs}
use Rattle.survey.specs.declared.runs.OpenRun.{OpenRun}
use Rattle.survey.specs.declared.runs.OpenRun.TheVariants.{Calm, Within}
use Rattle.survey.specs.declared.areas.Survey.{Survey}
use Rattle.survey.proofs.Tidied.{all-counted}

-- the open run's sum, with the lengths of the entries ahead, fits a word
pub record Walking (es : List Entry) (run : OpenRun) : Type 0 where
  pub sums : sum_so_far run + total es ≤ 65535

after-sum : (run : OpenRun) (κ : Kind) (n : ℕ) → sum_so_far (after run κ n) ≤ sum_so_far run + n
unfolding after
after-sum run κ n = go run (is_empty κ)
  where
    go : (r : OpenRun) (x : Bool) → sum_so_far (cond x (absorbed r n) (Calm (is_tentative κ))) ≤ sum_so_far r + n
    go r false = omega arith
    go (Calm p) true = omega arith
    go (Within t p) true = omega arith

module _ {es : List Entry} {run : OpenRun} (i : Walking es run) (e : Entry) (others : List Entry) (next : es ≡ e ∷ others) where
  total-next : total es ≡ blocks e + total others
  unfolding total
  total-next = rw next

  pub sum_fits : sum_so_far run + blocks e ≤ 65535
  sum_fits = omega (arith, i.sums, total-next)

  walks-on : Walking others (after run (kind e) (blocks e))
  walks-on = record { sums = omega (arith, i.sums, total-next, after-sum run (kind e) (blocks e)) }

-- the invariant of the outline: n entries have passed, and count are let out so far
pub record Outlining (g : List ℕ) (w : ℕ) (es : List Entry) (n count : ℕ) (run : OpenRun) : Type 0 where
  pub walks : Walking es run
  pub few : count ≤ 2 * n
  pub passed : n + length es ≡ length (upto (slots w g))
  pub same : count_runs count run es ≡ count_runs 0 (Calm false) (upto (slots w g))

pub outlining : {g : List ℕ} {w : ℕ} → Tidyable w g → Outlining g w (upto (slots w g)) 0 0 (Calm false)
outlining y = record { walks = record { sums = omega (arith, y.small) }; few = omega arith; passed = omega arith; same = refl }

module _ {g : List ℕ} {w : ℕ} {es : List Entry} {n count : ℕ} {run : OpenRun} (i : Outlining g w es n count run) where
  -- so few have passed that counts stay small
  pub small : 7 ≤ w → n ≤ 72
  small wide = omega (arith, i.passed, entries-count w g, most-slots w wide)

  -- no entry is ahead, and so many are left by the run
  pub outlined : es ≡ [] → {k : ℕ} → k ≡ leaves run → Tidyable w g → Outlined (record { count = count + k; entries = n }) (upto (slots w g))
  unfolding count_runs
  outlined e q y = record {
    count = rw q ((rw e at i.same) ∙ all-counted g w y);
    entries = omega (arith, i.passed, ap length e);
  }

  -- one entry more
  pub outline_on : (e : Entry) (others : List Entry) → es ≡ e ∷ others → (k : ℕ) → k ≡ lets run (kind e) → k ≤ 2
      → Outlining g w others (n + 1) (count + k) (after run (kind e) (blocks e))
  unfolding count_runs
  outline_on e others next k s l = record {
    walks = walks-on i.walks e others next;
    few = omega (arith, i.few);
    passed = omega (arith, i.passed, ap length next);
    same = rw s (rw next at i.same);
  }

-- the invariant of the survey
pub record Surveying (g : List ℕ) (w free m : ℕ) (given : Survey) (es : List Entry) (f : Survey) (run : OpenRun) : Type 0 where
  pub walks : Walking es run
  pub same : survey_runs m free f run es ≡ survey_runs m free given (Calm false) (upto (slots w g))

pub surveying : {g : List ℕ} {w : ℕ} (free m : ℕ) (given : Survey) → Tidyable w g
    → Surveying g w free m given (upto (slots w g)) given (Calm false)
surveying free m given y = record { walks = record { sums = omega (arith, y.small) }; same = refl }

module _ {g : List ℕ} {w free m : ℕ} {given : Survey} {es : List Entry} {f : Survey} {run : OpenRun}
    (i : Surveying g w free m given es f run) where
  pub surveyed : es ≡ [] → settled m free f run ≡ survey_runs m free given (Calm false) (upto (slots w g))
  unfolding survey_runs
  surveyed e = rw e at i.same

  -- one entry more
  pub survey-on : (e : Entry) (others : List Entry) → es ≡ e ∷ others
      → Surveying g w free m given others (met m free f run (kind e)) (after run (kind e) (blocks e))
  unfolding survey_runs
  survey-on e others next = record { walks = walks-on i.walks e others next; same = rw next at i.same }
