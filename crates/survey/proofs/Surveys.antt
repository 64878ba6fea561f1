-- The survey of a list of areas notes one after the other; it goes through two lists one after the other, and of a segment's areas it
-- is what a walk over the segment's entries gives, wherever they stand. Started from nothing, it says whether some area is long enough,
-- whether some eligible one is, and the two longest eligible lengths. Assumes nothing.
use Prim.Native.Nat.{ℕ, ◌+◌}
use mathlib.Core.Path.{◌≡◌, refl, sym, ap, ◌∙◌}
use mathlib.Core.Bool.{Bool, true, false, cond, ◌&&◌, ◌||◌, or_assoc, or-false}
use mathlib.Core.List.{List, [], ◌∷◌, ◌++◌}
use lib.Dec.{leb}
use Rattle.meaning.specs.Kinds.{is_tentative, is_empty}
use Rattle.meaning.specs.Words.{Entry, kind, blocks}
use Rattle.meaning.specs.Sound.{any}
use Rattle.meaning.specs.Enter.{Area, areas_in, eligibles, long_enough}
use Rattle.walks.specs.Top.{top}
use Rattle.walks.proofs.Topped.{top-is}
use Rattle.choice.specs.Room.{room_for, eligible_by}
use Rattle.choice.specs.Judged.{area_from}
use Rattle.survey.specs.Surveyed.{lengths, Surveyed, two_of, noted, survey_of}
use Rattle.survey.specs.declared.areas.Survey.{Survey}
use Rattle.survey.proofs.Tidied.{survey_in}

pub survey-nothing : (m : ℕ) (f : Survey) → f ≡ survey_of m f []
unfolding survey_of
survey-nothing m f = refl

pub survey-append : (m : ℕ) (f : Survey) (xs ys : List Area) → survey_of m f (xs ++ ys) ≡ survey_of m (survey_of m f xs) ys
unfolding survey_of
survey-append m f [] ys = refl
survey-append m f (x ∷ xs) ys = survey-append m (noted m f x.size x.eligible) xs ys

-- the areas among entries, and the entries themselves
pub survey-entries : (m free s k b : ℕ) (t : Bool) (es : List Entry) (f : Survey)
    → survey_of m f (areas_in (room_for free) s k b t es) ≡ survey_in m free f t es
unfolding survey_of areas_in survey_in eligible_by
survey-entries m free s k b t [] f = refl
survey-entries m free s k b t (e ∷ es) f =
    go (is_empty (kind e))
    (λ u. survey-entries m free s (k + 1) (b + blocks e) (is_tentative (kind e)) es u)
  where
    r : List Area
    r = areas_in (room_for free) s (k + 1) (b + blocks e) (is_tentative (kind e)) es

    go : (x : Bool) → ((u : Survey) → survey_of m u r ≡ survey_in m free u (is_tentative (kind e)) es)
        → survey_of m f (cond x (area_from free s k b t e ∷ r) r)
        ≡ survey_in m free (cond x (noted m f (blocks e) (eligible_by free t (blocks e))) f) (is_tentative (kind e)) es
    go true h = h (noted m f (blocks e) (eligible_by free t (blocks e)))
    go false h = h f

-- what a survey says in the end
module _ (m : ℕ) where
  survey-long : (f : Survey) (xs : List Area) → (survey_of m f xs).long ≡ f.long || long_enough m xs
  unfolding survey_of noted long_enough any
  survey-long f [] = sym (or-false f.long)
  survey-long f (x ∷ xs) =
      survey-long (noted m f x.size x.eligible) xs ∙ or_assoc f.long (leb m x.size) (long_enough m xs)

  survey-eligible : (f : Survey) (xs : List Area) → (survey_of m f xs).eligible ≡ f.eligible || long_enough m (eligibles xs)
  unfolding survey_of noted long_enough any eligibles
  survey-eligible f [] = sym (or-false f.eligible)
  survey-eligible f (x ∷ xs) = survey-eligible (noted m f x.size x.eligible) xs ∙ go x.eligible
    where
      go : (y : Bool)
          → (f.eligible || (y && leb m x.size)) || long_enough m (eligibles xs)
          ≡ f.eligible || long_enough m (cond y (x ∷ eligibles xs) (eligibles xs))
      go true = or_assoc f.eligible (leb m x.size) (long_enough m (eligibles xs))
      go false = rw (or-false f.eligible)

  survey-two : (f : Survey) (xs : List Area) → two_of (survey_of m f xs) ≡ top (two_of f) (lengths (eligibles xs))
  unfolding survey_of noted top eligibles
  survey-two f [] = refl
  survey-two f (x ∷ xs) = survey-two (noted m f x.size x.eligible) xs ∙ go x.eligible
    where
      go : (y : Bool)
          → top (two_of (noted m f x.size y)) (lengths (eligibles xs))
          ≡ top (two_of f) (lengths (cond y (x ∷ eligibles xs) (eligibles xs)))
      go true = refl
      go false = refl

-- nothing surveyed yet
abbrev pub nothing : Survey
nothing = record { long = false; eligible = false; longest = 0; second = 0 }

pub survey-is : (m : ℕ) (xs : List Area) (r : Survey) → r ≡ survey_of m nothing xs → Surveyed r xs m
survey-is m xs r e =
    let two = survey-two m nothing xs ∙ top-is (lengths (eligibles xs)) in
    rw e
    (record {
      long = survey-long m nothing xs;
      eligible = survey-eligible m nothing xs;
      longest = ap (λ (p : ℕ × ℕ). p.0) two;
      second = ap (λ (p : ℕ × ℕ). p.1) two;
    })
