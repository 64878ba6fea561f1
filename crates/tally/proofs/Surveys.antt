-- The survey along the chain. The moves of the segments so far and of those ahead are all moves, and a segment so far is overfull, or one
-- ahead is, exactly where one of the new directory is. The way along the chain gives each segment what its survey presumes.
use Prim.Native.Nat.{ℕ, zero, suc, ◌+◌, ◌*◌, ◌-◌, ◌≤◌, ◌<◌}
use native.Mathlib.Omega.{arith}
use mathlib.Core.Path.{◌≡◌, refl, sym, ◌∙◌}
use mathlib.Core.Bool.{Bool, true, false, cond, ◌||◌, or-false, or_assoc}
use mathlib.Core.List.{List, [], ◌∷◌, ◌++◌}
use lib.ListN.{length, length-append}
use lib.Dec.{eqb}
use borrow.Author.Tests.{ne_eqb}
use Rattle.meaning.specs.Words.{first_data, highest, slot_words, capacity, Entry, entries, total, chain_from, chain}
use Rattle.meaning.specs.Sound.{any}
use Rattle.walks.proofs.Lists.{chain-over}
use Rattle.rules.proofs.Rule5.{rule1-holds, rule2-holds}
use Rattle.rules.proofs.Soundness.{Sound}
use Rattle.laws.proofs.Way.{entries_in, spread, all-spread}
use Rattle.chain.proofs.Links.{part-is, link_at, chain_next}
use Rattle.chain.proofs.Replaced.{part_of}
use Rattle.squeezed.specs.Moves.{needed}
use Rattle.squeezed.specs.Squeeze.{free_up_to, places, moves, left_over, packed_entries, last_over, parts, new_parts, overfull}
use Rattle.squeezed.proofs.Along.{places-append, needed-append}
use Rattle.tally.specs.declared.survey.Survey.{Survey}
use Rattle.tally.proofs.Onward.{Within, Onward, onward, Here, here, within}
use Rattle.tally.specs.Surveyed.{last_count, survey_after, Surveyable, SurveyedTo, ChainSurveyed}

-- the moves of a segment's entries, and of those after it
moves-join : (es rest : List Entry) (b p : ℕ)
    → length (needed (places b p (es ++ rest)))
    ≡ length (needed (places b p es)) + length (needed (places (b + total es) (free_up_to b p es) rest))
moves-join es rest b p =
    let after = places (b + total es) (free_up_to b p es) rest in
    rw (places-append es rest b p, needed-append (places b p es) after) (length-append (needed (places b p es)) (needed after))

-- what is left over stands in the last of n segments that are left
last-length : (w n q v : ℕ) (d : List ℕ) (z : ℕ) → 0 < n → length (last_over (chain_from (n - 1) d z) (left_over w q v)) ≡ last_count n q v
unfolding chain_from left_over
last-length w zero q v d z h = absurd (omega arith)
last-length w (suc zero) q v d z h = go (eqb q v) _
  where
    go : (x : Bool) (g : Entry) → length (cond x [] (g ∷ [])) ≡ cond x 0 1
    go true g = refl
    go false g = refl
last-length w (suc (suc n)) q v d z h =
    let m : suc (suc n) - 1 ≡ suc n = omega arith in
    rw (m, ne_eqb (suc (suc n)) 1 (λ e. omega arith)) refl

-- so many segments are left, from segment s on, which begins at a block
pub record Surveying (v : ℕ) (d : List ℕ) (left s : ℕ) (x : Survey) : Type 0 where
  pub block : ℕ
  pub on : Onward v d left s block x.free
  pub place : Within d left s
  pub few : x.moves + 507 * left ≤ 507 * 31
  pub moves : x.moves + length (needed (places block x.free (spread (slot_words d) d (chain_from left d s)))) ≡ length (moves d)
  pub over : x.over || overfull (capacity d) (parts v d x.free (chain_from left d s)) ≡ overfull (capacity d) (new_parts v d)

pub survey_starts : {v : ℕ} {d : List ℕ} → Sound v d → Surveying v d (highest d) 1 (record { free = first_data d; moves = 0; over = false })
unfolding chain moves new_parts
survey_starts {v} {d} sd =
    record {
      block = first_data d;
      on = onward sd;
      place = within sd (onward sd);
      few = omega (arith, (rule1-holds v d sd.size).few, (rule2-holds d sd.header).within);
      moves = rw (all-spread d) (omega arith);
      over = refl;
    }

module _ {v : ℕ} {d : List ℕ} (sd : Sound v d) {left s : ℕ} {x : Survey} (i : Surveying v d left s x) where
  pub survey-over : left ≤ 0 → ChainSurveyed v d x
  unfolding places needed parts overfull any
  survey-over h = record {
    moves = omega (arith, rw (chain-over left d s h) at i.moves);
    few = omega (arith, i.few);
    over = sym (or-false x.over) ∙ (rw (chain-over left d s h) at i.over);
  }

  module _ (h : 0 < left) where
    -- the segment at hand
    pub at-segment : Here v d left s i.block x.free
    at-segment = here sd h i.on

    pub surveyable : Surveyable (slot_words d) (part_of d s) x
    surveyable = rw (part-is d s) (record { walk = at-segment.walk; few = omega (arith, i.few) })

    pub survey-next : (r : Survey) → SurveyedTo v (slot_words d) left (part_of d s) x r → Surveying v d (left - 1) (link_at d s) r
    unfolding survey_after parts overfull any capacity entries
    survey-next r o =
        let on = at-segment.rest in
        let w = slot_words d in
        let b = i.block in
        let first = at-segment.first in
        let es = entries_in w d s in
        let q = free_up_to b x.free es in
        let ss = chain_from (left - 1) d (link_at d s) in
        let is = rw (part-is d s, first) at o.is in
        let e = length-append (packed_entries w b x.free es) (last_over ss (left_over w q v)) in
        rw is
        (record {
          block = b + total es;
          on = rw first at on;
          place = within sd on;
          few = omega (arith, rw is at o.moves, i.few);
          moves = omega (arith, moves-join es (spread w d ss) b x.free, rw (chain_next left d s h) at i.moves);
          over =
              rw (or_assoc x.over _ _, ← last-length w left q v d (link_at d s) h, ← e)
              (rw (chain_next left d s h, first) at i.over);
        })
