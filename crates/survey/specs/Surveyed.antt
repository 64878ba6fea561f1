-- What the survey promises: of all areas, and entry by entry.
use Rattle.std.specs.Prelude.{ℕ, ◌≡◌, Bool, false, cond, ◌&&◌, ◌||◌, List, [], ◌∷◌, map, length, leb}
use Rattle.meaning.specs.declared.Kind.{Kind}
use Rattle.meaning.specs.Kinds.{is_empty}
use Rattle.meaning.specs.Words.{Entry, kind, blocks, entries, chain}
use Rattle.meaning.specs.Sound.{any}
use Rattle.meaning.specs.Enter.{Area, areas_in, areas, eligibles, longest_of, second_of, long_enough, tidy, untidy, tidied}
use Rattle.walks.specs.Top.{better}
use Rattle.choice.specs.Room.{eligible_by, room_by}
use Rattle.survey.specs.Runs.{dropped, after}
use Rattle.survey.specs.declared.runs.OpenRun.{OpenRun}
use Rattle.survey.specs.declared.runs.OpenRun.TheVariants.{Calm, Within}
use Rattle.survey.specs.declared.areas.Survey.{Survey}
use Rattle.survey.specs.declared.areas.Findings.{Findings}

abbrev pub lengths : List Area → List ℕ
lengths xs = map (λ r. r.size) xs

-- the survey r of the areas xs, for a least length of n
pub record Surveyed (r : Survey) (xs : List Area) (n : ℕ) : Type 0 where
  pub long : r.long ≡ long_enough n xs
  pub eligible : r.eligible ≡ long_enough n (eligibles xs)
  pub longest : r.longest ≡ longest_of (lengths (eligibles xs))
  pub second : r.second ≡ second_of (lengths (eligibles xs))

-- the longest and the second longest so far
abbrev pub two_of : Survey → ℕ × ℕ
two_of f = (f.longest, f.second)

-- a survey f with one area more, of n blocks, eligible or not; of areas at least m long
unfoldable pub noted : ℕ → Survey → ℕ → Bool → Survey
noted m f n eligible =
    let t = cond eligible (better (two_of f) n) (two_of f) in
    record {
      long = f.long || leb m n;
      eligible = f.eligible || (eligible && leb m n);
      longest = t.0;
      second = t.1;
    }

-- with a run that ends, in a segment of which so many slots are free
abbrev pub settled : ℕ → ℕ → Survey → OpenRun → Survey
settled m free f (Calm p) = f
settled m free f (Within t p) = cond (dropped t p) f (noted m f t (eligible_by free p t))

-- with a slot of a kind: an empty one waits in its run
unfoldable pub met : ℕ → ℕ → Survey → OpenRun → Kind → Survey
met m free f run κ = cond (is_empty κ) f (settled m free f run)

-- with the entries of a segment more
unfoldable pub survey_runs : ℕ → ℕ → Survey → OpenRun → List Entry → Survey
survey_runs m free f run [] = settled m free f run
survey_runs m free f run (e ∷ es) = survey_runs m free (met m free f run (kind e)) (after run (kind e) (blocks e)) es

-- with areas more, one after the other
unfoldable pub survey_of : ℕ → Survey → List Area → Survey
survey_of m f [] = f
survey_of m f (a ∷ xs) = survey_of m (noted m f a.size a.eligible) xs

-- what is found in a segment with the entries es, after the survey f: the areas of its tidied entries, wherever the segment stands, and
-- whether the entries are untidy
pub record Found (r : Findings) (m w : ℕ) (spare : Bool) (f : Survey) (es : List Entry) : Type 0 where
  pub areas : (s b : ℕ) → r.areas ≡ survey_of m f (areas_in (room_by w spare (length (tidy es))) s 0 b false (tidy es))
  pub untidy : r.untidy ≡ untidy es

-- what is found in the directory d
pub record FoundAlong (r : Findings) (d : List ℕ) (m : ℕ) : Type 0 where
  pub areas : Surveyed r.areas (areas (tidied d (chain d)) (chain d)) m
  pub untidy : r.untidy ≡ any (λ s. untidy (entries d s)) (chain d)
