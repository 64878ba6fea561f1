-- What a walk by sums meets is what the tidy leaves. The machine of the tidy keeps a run by its first entry and its sum; of what it lets
-- out only the sum and what stands before are asked, which the walk has too. So by induction on the entries ahead the walk counts, and
-- surveys, the tidied entries. Assumes nothing.
use Prim.Native.Nat.{ℕ, ◌+◌}
use mathlib.Core.Path.{◌≡◌, refl, sym, ◌∙◌}
use mathlib.Core.Bool.{Bool, true, false, cond}
use mathlib.Core.List.{List, [], ◌∷◌, ◌++◌}
use native.Mathlib.Omega.{arith}
use lib.ListN.{length, set, length-append}
use Rattle.meaning.specs.Kinds.{is_tentative, is_empty}
use Rattle.meaning.specs.Words.{Entry, length_word, kind, blocks, slots, upto}
use Rattle.meaning.specs.Enter.{is_area, tidy}
use Rattle.walks.specs.Runs.{RunSoFar, calm, within, absorb, flushed, tidy_from, Long}
use Rattle.walks.proofs.Tidied.{kind-set, blocks-set, Open, absorb_open, tidy-from, segment-long}
use Rattle.tidy.specs.Tidied.{Tidyable}
use Rattle.choice.specs.Room.{eligible_by}
use Rattle.survey.specs.Runs.{dropped, absorbed, after, leaves, lets, count_runs}
use Rattle.survey.specs.Surveyed.{noted, settled, met, survey_runs}
use Rattle.survey.specs.declared.runs.OpenRun.{OpenRun}
use Rattle.survey.specs.declared.runs.OpenRun.TheVariants.{Calm, Within}
use Rattle.survey.specs.declared.areas.Survey.{Survey}

-- the walk's run for the machine's, and what stands before it
abbrev open_of : RunSoFar → OpenRun
open_of (calm p) = Calm p
open_of (within e t p) = Within t p

abbrev before_of : RunSoFar → Bool
before_of (calm p) = p
before_of (within e t p) = p

absorb-same : (r : RunSoFar) (f : Entry) → absorbed (open_of r) (blocks f) ≡ open_of (absorb r f)
absorb-same (calm p) f = refl
absorb-same (within e t p) f = refl

absorb-before : (r : RunSoFar) (f : Entry) → before_of (absorb r f) ≡ before_of r
absorb-before (calm p) f = refl
absorb-before (within e t p) f = refl

-- an area of tidied entries noted, in chain order
unfoldable pub survey_in : ℕ → ℕ → Survey → Bool → List Entry → Survey
survey_in m free f p [] = f
survey_in m free f p (e ∷ es) =
    survey_in m free (cond (is_empty (kind e)) (noted m f (blocks e) (eligible_by free p (blocks e))) f) (is_tentative (kind e)) es

-- the count
flushed-count : (r : RunSoFar) → length (flushed r) ≡ leaves (open_of r)
flushed-count (calm p) = refl
flushed-count (within e t p) = go (dropped t p)
  where
    go : (x : Bool) → length (cond x [] (set e length_word t ∷ [])) ≡ cond x 0 1
    go true = refl
    go false = refl

count-run : (n : ℕ) (r : RunSoFar) (es : List Entry) → count_runs n (open_of r) es ≡ n + length (tidy_from r es)
unfolding count_runs tidy_from after lets
count-run n r [] = rw (flushed-count r)
count-run n r (f ∷ fs) = go (is_area f) refl (count-run (n + 0) (absorb r f) fs) (count-run _ (calm (is_tentative (kind f))) fs)
  where
    go : (x : Bool) → is_area f ≡ x
        → count_runs (n + 0) (open_of (absorb r f)) fs ≡ n + 0 + length (tidy_from (absorb r f) fs)
        → count_runs (n + (leaves (open_of r) + 1)) (Calm (is_tentative (kind f))) fs
        ≡ n + (leaves (open_of r) + 1) + length (tidy_from (calm (is_tentative (kind f))) fs)
        → count_runs (n + cond (is_area f) 0 (leaves (open_of r) + 1))
        (cond (is_area f) (absorbed (open_of r) (blocks f)) (Calm (is_tentative (kind f)))) fs
        ≡ n + length (cond (is_area f) (tidy_from (absorb r f) fs) (flushed r ++ f ∷ tidy_from (calm (is_tentative (kind f))) fs))
    go true e i j = rw (e, absorb-same r f, i) (omega arith)
    go false e i j =
        rw (e, j, length-append (flushed r) (f ∷ tidy_from (calm (is_tentative (kind f))) fs), flushed-count r) (omega arith)

count-tidied : (es : List Entry) → Long es → count_runs 0 (Calm false) es ≡ length (tidy es)
count-tidied es h = count-run 0 (calm false) es ∙ rw (tidy-from es h) (omega arith)

pub all-counted : (g : List ℕ) (w : ℕ) → Tidyable w g
    → count_runs 0 (Calm false) (upto (slots w g)) ≡ length (tidy (upto (slots w g)))
all-counted g w y = count-tidied (upto (slots w g)) (segment-long w g y.wide y.whole)

-- the survey
module _ (m free : ℕ) where
  -- a run that ends, before entries that are left
  flushed-survey : (r : RunSoFar) → Open r → (f : Survey) (x : Entry) (es : List Entry) → is_area x ≡ false
      → survey_in m free f (before_of r) (flushed r ++ x ∷ es)
      ≡ survey_in m free (settled m free f (open_of r)) (is_tentative (kind x)) es
  unfolding survey_in
  flushed-survey (calm p) o f x es a = rw a
  flushed-survey (within e t p) o f x es a = go (dropped t p)
    where
      area : is_empty (kind (set e length_word t)) ≡ true
      area = rw kind-set o.0

      go : (y : Bool)
          → survey_in m free f p (cond y [] (set e length_word t ∷ []) ++ x ∷ es)
          ≡ survey_in m free (cond y f (noted m f t (eligible_by free p t))) (is_tentative (kind x)) es
      go true = rw a
      go false = rw (area, blocks-set e t o.1, a)

  -- and at the end
  flushed-last : (r : RunSoFar) → Open r → (f : Survey) → survey_in m free f (before_of r) (flushed r) ≡ settled m free f (open_of r)
  unfolding survey_in
  flushed-last (calm p) o f = refl
  flushed-last (within e t p) o f = go (dropped t p)
    where
      area : is_empty (kind (set e length_word t)) ≡ true
      area = rw kind-set o.0

      go : (y : Bool)
          → survey_in m free f p (cond y [] (set e length_word t ∷ [])) ≡ cond y f (noted m f t (eligible_by free p t))
      go true = refl
      go false = rw (area, blocks-set e t o.1)

  survey-run : (f : Survey) (r : RunSoFar) (es : List Entry) → Open r → Long es
      → survey_runs m free f (open_of r) es ≡ survey_in m free f (before_of r) (tidy_from r es)
  unfolding survey_runs tidy_from after met
  survey-run f r [] o h = sym (flushed-last r o f)
  survey-run f r (x ∷ xs) o h =
      go (is_area x) refl
      (λ a. survey-run f (absorb r x) xs (absorb_open r x o a h.0) h.1)
      (survey-run (settled m free f (open_of r)) (calm (is_tentative (kind x))) xs tt h.1)
    where
      go : (y : Bool) → is_area x ≡ y
          → (is_area x ≡ true
          → survey_runs m free f (open_of (absorb r x)) xs ≡ survey_in m free f (before_of (absorb r x)) (tidy_from (absorb r x) xs))
          → survey_runs m free (settled m free f (open_of r)) (Calm (is_tentative (kind x))) xs
          ≡ survey_in m free (settled m free f (open_of r)) (is_tentative (kind x)) (tidy_from (calm (is_tentative (kind x))) xs)
          → survey_runs m free (cond (is_area x) f (settled m free f (open_of r)))
          (cond (is_area x) (absorbed (open_of r) (blocks x)) (Calm (is_tentative (kind x)))) xs
          ≡ survey_in m free f (before_of r)
          (cond (is_area x) (tidy_from (absorb r x) xs) (flushed r ++ x ∷ tidy_from (calm (is_tentative (kind x))) xs))
      go true e i j = rw (e, absorb-same r x, i e, absorb-before r x)
      go false e i j = rw (e, j) (sym (flushed-survey r o f x (tidy_from (calm (is_tentative (kind x))) xs) e))

  pub survey-tidied : (f : Survey) (es : List Entry) → Long es
      → survey_runs m free f (Calm false) es ≡ survey_in m free f false (tidy es)
  survey-tidied f es h = survey-run f (calm false) es tt h ∙ rw (tidy-from es h)
