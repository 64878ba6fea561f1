-- The survey along the chain. The areas of the tidied directory are, segment by segment, those among the tidied entries, since the tidy
-- leaves the headers and the chain; so the walk may go along the chain of the directory as it is. It keeps one equation: the survey so
-- far with the segments ahead is the survey of all areas; and so with what is said of untidy segments. Assumes nothing.
use Prim.Native.Nat.{ℕ, zero, suc, ◌+◌, ◌*◌, ◌-◌, ◌≤◌, ◌<◌}
use mathlib.Core.Path.{◌≡◌, refl, sym, ap, ◌∙◌}
use mathlib.Core.Bool.{Bool, true, false, ◌&&◌, ◌||◌, not, or_assoc, or-false}
use mathlib.Core.List.{List, [], ◌∷◌, ◌++◌}
use native.Mathlib.Omega.{arith}
use lib.ListN.{length}
use lib.Dec.{eqb, ltb}
use borrow.Author.Tests.{le-leb}
use Rattle.bools.proofs.Bools.{neither}
use Rattle.meaning.specs.Kinds.{is_tentative}
use Rattle.meaning.specs.Words.{Entry, segment, segments, highest, first_of, link_of, slot_words, capacity, kind, blocks, slots, upto}
use Rattle.meaning.specs.Words.{entries, chain_from, chain}
use Rattle.meaning.specs.Sound.{any}
use Rattle.meaning.specs.Enter.{Area, is_area, has_room, areas_in, areas, has_run, has_zero, untidy, tidy, tidied_at, tidied}
use Rattle.walks.specs.Links.{linked}
use Rattle.walks.proofs.Tidied.{segment-long}
use Rattle.walks.proofs.Untidy.{tidy-none, untidy-counted}
use Rattle.chain.specs.Chained.{Chained}
use Rattle.chain.proofs.Links.{part-is, link_at, next, chain_next}
use Rattle.walks.proofs.Words.{segment-length}
use Rattle.chain.proofs.Replaced.{part_of}
use Rattle.tidy.specs.Tidied.{Tidyable, Small, TidyKept}
use Rattle.walks.proofs.Linked.{visit}
use Rattle.walks.proofs.Lists.{chain-over}
use Rattle.tidy.proofs.InPlace.{tidied-kept}
use Rattle.tidy.proofs.AfterTidy.{highest-same, capacity-same, segments-same, first-same}
use Rattle.choice.specs.Room.{room_for, room_by, Free}
use Rattle.choice.specs.Judged.{long, long_entry}
use Rattle.choice.proofs.Visits.{areas-same}
use Rattle.survey.specs.Runs.{Outlined}
use Rattle.survey.specs.Surveyed.{survey_runs, survey_of, Found, FoundAlong}
use Rattle.survey.specs.declared.runs.Outline.{Outline}
use Rattle.survey.specs.declared.runs.OpenRun.TheVariants.{Calm}
use Rattle.survey.specs.declared.areas.Survey.{Survey}
use Rattle.survey.specs.declared.areas.Findings.{Findings}
use Rattle.survey.proofs.Tidied.{survey-tidied}
use Rattle.survey.proofs.Surveys.{survey-nothing, survey-append, survey-entries, nothing, survey-is}

-- the areas among the tidied entries of segment s, and of several
abbrev areas_at : List ℕ → ℕ → List Area
areas_at d s = areas_in (has_room d (tidy (entries d s))) s 0 (first_of (segment d s)) false (tidy (entries d s))

unfoldable pub areas_along : List ℕ → List ℕ → List Area
areas_along d [] = []
areas_along d (s ∷ ss) = areas_at d s ++ areas_along d ss

-- they are those of the tidied directory
module _ (d t : List ℕ) (k : TidyKept d t) where
  room-same : (es : List Entry) (c : ℕ) → has_room t es c ≡ has_room d es c
  unfolding has_room
  room-same es c = rw (capacity-same d t k, highest-same d t k, segments-same d t k)

  along_same : (n s : ℕ) → linked n d s ≡ true → areas t (chain_from n d s) ≡ areas_along d (chain_from n d s)
  unfolding areas areas_along chain_from
  along_same zero s h = refl
  along_same (suc n) s h =
      let p = visit n d s h in
      rw (
        k.used s p.low p.high,
        first-same d t k s p.low,
        areas-same (has_room t (tidy (entries d s))) (has_room d (tidy (entries d s))) (λ c a b. room-same (tidy (entries d s)) c) s 0
            (first_of (segment d s)) false (tidy (entries d s)),
        along_same n (link_of (segment d s)) p.rest,
      )

pub areas_along_lem : (d : List ℕ) → Chained d → areas (tidied d (chain d)) (chain d) ≡ areas_along d (chain d)
unfolding chain
areas_along_lem d c = along_same d (tidied d (chain d)) (tidied-kept d c) (highest d) 1 c.links

along_next : (n : ℕ) (d : List ℕ) (s : ℕ) → 0 < n
    → areas_along d (chain_from n d s) ≡ areas_at d s ++ areas_along d (chain_from (n - 1) d (link_at d s))
unfolding areas_along
along_next n d s h = rw (chain_next n d s h)

along_none : (n : ℕ) (d : List ℕ) (s : ℕ) → n ≤ 0 → areas_along d (chain_from n d s) ≡ []
unfolding areas_along
along_none n d s h = rw (chain-over n d s h)

-- without an area the tidy changes nothing, and there is nothing to survey
calm_run : (es : List Entry) → any is_area es ≡ false → has_run es ≡ false
unfolding any has_run
calm_run [] h = refl
calm_run (e ∷ es) h = let n = neither (is_area e) (any is_area es) h in rw n.0 (calm_run es n.1)

calm-zero : (p : Bool) (es : List Entry) → any is_area es ≡ false → has_zero p es ≡ false
unfolding any has_zero
calm-zero p [] h = refl
calm-zero p (e ∷ es) h =
    let n = neither (is_area e) (any is_area es) h in
    rw n.0 (calm-zero (is_tentative (kind e)) es n.1)

calm-tidy : (es : List Entry) → any is_area es ≡ false → tidy es ≡ es
unfolding untidy
calm-tidy es h = tidy-none es (rw (calm_run es h, calm-zero false es h))

calm-areas : (room : ℕ → Bool) (s k b : ℕ) (p : Bool) (es : List Entry) → any is_area es ≡ false → areas_in room s k b p es ≡ []
unfolding any areas_in
calm-areas room s k b p [] h = refl
calm-areas room s k b p (e ∷ es) h =
    let n = neither (is_area e) (any is_area es) h in
    rw n.0 (calm-areas room s (k + 1) (b + blocks e) (is_tentative (kind e)) es n.1)

-- an area of length at least 0 is any area
any-length : (es : List Entry) → any (long_entry 0) es ≡ any is_area es
unfolding any long
any-length [] = refl
any-length (e ∷ es) = rw (any-length es, le-leb 0 (blocks e) (omega arith)) (go (is_area e))
  where
    go : (x : Bool) → (x && true) || any is_area es ≡ x || any is_area es
    go true = refl
    go false = refl

not-not : (x : Bool) → not (not x) ≡ x
not-not true = refl
not-not false = refl

-- what is found in one segment with the entries es: where it has no area, and where its outline is o
module _ (m w : ℕ) (spare : Bool) (f : Survey) where
  pub found_none : (es : List Entry) → any (long_entry 0) es ≡ false → Found (record { areas = f; untidy = false }) m w spare f es
  unfolding untidy
  found_none es a = record {
    areas = λ s b.
        survey-nothing m f
        ∙ ap (survey_of m f)
        (sym
        (ap (areas_in (room_by w spare (length (tidy es))) s 0 b false) (calm-tidy es calm)
        ∙ calm-areas (room_by w spare (length (tidy es))) s 0 b false es calm));
    untidy = rw (calm_run es calm, calm-zero false es calm);
  }
    where
      calm : any is_area es ≡ false
      calm = sym (any-length es) ∙ a

module _ (g : List ℕ) (w m : ℕ) (spare : Bool) (f : Survey) (y : Tidyable w g) (o : Outline) (q : Outlined o (upto (slots w g))) where
  -- the count tells whether the entries are untidy
  untidy-seen : not (eqb o.count o.entries) ≡ untidy (upto (slots w g))
  untidy-seen = rw (q.count, q.entries, untidy-counted (upto (slots w g))) (not-not (untidy (upto (slots w g))))

  -- the areas by free slots are those by the room
  pub found_some : (r : ℕ) → Free r w spare o.count → (u : Survey) → u ≡ survey_runs m r f (Calm false) (upto (slots w g))
      → Found (record { areas = u; untidy = not (eqb o.count o.entries) }) m w spare f (upto (slots w g))
  found_some r h u e =
      let ts : List Entry = tidy (upto (slots w g)) in
      let k : Free r w spare (length ts) = rw q.count at h in
      record {
        areas = λ s b.
            e
            ∙ survey-tidied m r f (upto (slots w g)) (segment-long w g y.wide y.whole)
            ∙ sym (survey-entries m r s 0 b false ts f)
            ∙ ap (survey_of m f) (areas-same (room_for r) (room_by w spare (length ts)) k.is s 0 b false ts);
        untidy = untidy-seen;
      }

-- whether some of the segments is untidy
abbrev any_untidy : List ℕ → List ℕ → Bool
any_untidy d ss = any (λ s. untidy (entries d s)) ss

untidy-next : (n : ℕ) (d : List ℕ) (s : ℕ) → 0 < n
    → any_untidy d (chain_from n d s) ≡ untidy (entries d s) || any_untidy d (chain_from (n - 1) d (link_at d s))
unfolding any
untidy-next n d s h = rw (chain_next n d s h)

untidy-none : (n : ℕ) (d : List ℕ) (s : ℕ) → n ≤ 0 → any_untidy d (chain_from n d s) ≡ false
unfolding any
untidy-none n d s h = rw (chain-over n d s h)

-- the invariant of the walk over the chain: left segments are ahead, from s on
pub record Visiting (d : List ℕ) (m left s : ℕ) (f : Survey) (x : Bool) : Type 0 where
  pub links : linked left d s ≡ true
  pub same : survey_of m f (areas_along d (chain_from left d s)) ≡ survey_of m nothing (areas_along d (chain d))
  pub mixed : x || any_untidy d (chain_from left d s) ≡ any_untidy d (chain d)

pub starts : (d : List ℕ) (m : ℕ) → Chained d → Visiting d m (highest d) 1 nothing false
unfolding chain
starts d m c = record { links = c.links; same = refl; mixed = refl }

pub all-surveyed : {d : List ℕ} {m left s : ℕ} {f : Survey} {x : Bool} → Chained d → Visiting d m left s f x → left ≤ 0
    → FoundAlong (record { areas = f; untidy = x }) d m
unfolding survey_of
all-surveyed {d} {m} {left} {s} {f} {x} c i h = record {
  areas = rw (areas_along_lem d c) (survey-is m (areas_along d (chain d)) f (rw (along_none left d s h) at i.same));
  untidy = sym (or-false x) ∙ (rw (untidy-none left d s h) at i.mixed);
}

-- the room in a segment of d, as code tests it
room_of : (d : List ℕ) (es : List Entry) (c : ℕ)
    → room_by (slot_words d) (ltb (highest d) (segments d)) (length es) c ≡ has_room d es c
unfolding has_room capacity
room_of d es c = refl

module _ (d : List ℕ) (c : Chained d) (s : ℕ) (low : 1 ≤ s) (high : s ≤ highest d) where
  whole : 512 * s ≤ length d
  whole = omega (arith, c.whole)

  pub ready : Small d → Tidyable (slot_words d) (part_of d s)
  unfolding entries
  ready l = record {
    whole = rw (part-is d s) (segment-length d s low whole);
    wide = omega arith;
    narrow = omega (arith, c.extra);
    small = rw (part-is d s) (l s low high);
  }

  -- one segment more, and what is found there
  pub one-surveyed : {m left : ℕ} {f : Survey} {x : Bool} → Visiting d m left s f x → 0 < left → (r : Findings)
      → Found r m (slot_words d) (ltb (highest d) (segments d)) f (upto (slots (slot_words d) (part_of d s)))
      → (z : Bool) → z ≡ x || r.untidy
      → Visiting d m (left - 1) (link_at d s) r.areas z
  unfolding entries
  one-surveyed {m} {left} {f} {x} i h r q z e =
      let es : List Entry = entries d s in
      let room = room_by (slot_words d) (ltb (highest d) (segments d)) (length (tidy es)) in
      let rest = areas_along d (chain_from (left - 1) d (link_at d s)) in
      let p : Found r m (slot_words d) (ltb (highest d) (segments d)) f es = rw (part-is d s) at q in
      let v : r.areas ≡ survey_of m f (areas_at d s) =
      p.areas s (first_of (segment d s))
      ∙ ap (survey_of m f)
      (areas-same room (has_room d (tidy es)) (λ c a b. room_of d (tidy es) c) s 0 (first_of (segment d s)) false (tidy es)) in
      record {
        links = (next left d s c h i.links).rest;
        same = rw (v, ← survey-append m f (areas_at d s) rest, ← along_next left d s h) i.same;
        mixed =
            rw (e, p.untidy, or_assoc x (untidy es) (any_untidy d (chain_from (left - 1) d (link_at d s))), ← untidy-next left d s h)
            i.mixed;
      }

-- a directory without an untidy segment is as the tidy leaves it
pub tidied-already : (d ss : List ℕ) → any_untidy d ss ≡ false → tidied d ss ≡ d
unfolding any tidied tidied_at
tidied-already d [] h = refl
tidied-already d (s ∷ ss) h =
    let n = neither (untidy (entries d s)) (any_untidy d ss) h in
    rw n.0 (tidied-already d ss n.1)
