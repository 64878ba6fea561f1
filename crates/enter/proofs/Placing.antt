-- The area that was chosen is one where the new entry may be put: it stands in a segment in use of the tidied directory, which has the
-- chain and the sums of the directory as it came, so its slot, its room and its blocks are as the insertion asks. What is put there is
-- then the outcome of the meaning, since that asks the area for its segment, the entries before it and its cost alone.
use Prim.Native.Nat.{ℕ, ◌*◌, ◌-◌, ◌+◌, ◌≤◌, ◌<◌}
use native.Mathlib.Omega.{arith}
use mathlib.Core.Path.{◌≡◌, refl, sym, ap, ◌∙◌}
use mathlib.Core.Bool.{false≢true}
use mathlib.Core.List.{List, []}
use mathlib.Core.Option.{Option, none, some}
use lib.ListN.{length, get_or, drop}
use lib.Seq.{drop-drop}
use Rattle.meaning.specs.declared.Name.{Name}
use Rattle.meaning.specs.Words.{slot_words, slot_count, length_word, Entry, blocks, segment, slots, first_of, highest, entries}
use Rattle.meaning.specs.Words.{total, chain}
use Rattle.meaning.specs.Sound.{fault}
use Rattle.meaning.specs.Answers.{success, is_none}
use Rattle.meaning.specs.Enter.{Area, tidied, areas, eligibles, first_fit, unsplit, split, entered, split_at, entered_at}
use Rattle.walks.proofs.Words.{word, header}
use Rattle.walks.proofs.Slots.{entry_at}
use Rattle.walks.proofs.Unbroken.{unbroken}
use Rattle.chain.specs.Chained.{Chained}
use Rattle.chain.proofs.Chains.{fault-chained}
use Rattle.tidy.specs.Tidied.{TidyKept}
use Rattle.tidy.proofs.InPlace.{tidied-kept}
use Rattle.tidy.proofs.AfterTidy.{slots_same, highest-same, first-same, total-same, ends_by}
use Rattle.choice.specs.declared.choose.AreaPlace.{AreaPlace}
use Rattle.std.specs.Prelude.{Some, None}
use Rattle.choice.specs.Choice.{Stands, Fitted, place_of_area}
use Rattle.choice.proofs.FirstFit.{chosen-area, chosen_none}
use Rattle.insert.specs.declared.place.Spot.{Spot}
use Rattle.insert.specs.Spots.{area_of, Enterable}
use Rattle.enter.specs.Entering.{new_of, Fits, placed_in}
use Rattle.enter.proofs.Ready.{volume}

-- the spot of a place
abbrev pub spot_at : AreaPlace → Spot
spot_at p = record { seg = p.seg; before = p.before; word = p.at - 512 * (p.seg - 1); cost = p.cost }

-- the length of the entry after k others of segment s, where its words stand
entry-blocks : (t : List ℕ) (s k : ℕ) → k < length (entries t s) → 5 + k * slot_words t + slot_words t ≤ 512
    → blocks (get_or (entries t s) k []) ≡ get_or t (512 * (s - 1) + (5 + k * slot_words t + length_word)) 0
unfolding entries slots
entry-blocks t s k h l =
    let w : ℕ = slot_words t in
    let i = entry_at (slot_count w) w (drop 5 (segment t s)) k h in
    let p : 5 + k * w + 4 < 512 = omega arith in
    ap blocks i ∙ rw (drop-drop (k * w) 5 (segment t s), word (segment t s) (5 + k * w) w 4 (omega arith), header t s (5 + k * w + 4) p)

same_area : (t : List ℕ) (new : Entry) (n w : ℕ) (a : Area) → entered t new n a ≡ entered t new n (area_of (spot_at (place_of_area w a)))
unfolding entered unsplit split
same_area t new n w a = refl

same-position : (t : List ℕ) (w : ℕ) (a : Area) → entered_at t a ≡ entered_at t (area_of (spot_at (place_of_area w a)))
unfolding entered_at split_at
same-position t w a = refl

-- the tidied directory can be followed
pub tidied-chained : (v : ℕ) (d : List ℕ) → fault v d ≡ 0 → Chained (tidied d (chain d))
tidied-chained v d h = (tidied-kept d (fault-chained v d h)).chained

module _ (v : ℕ) (d : List ℕ) (h : fault v d ≡ 0) (n : ℕ) where
  abbrev pub t : List ℕ
  t = tidied d (chain d)

  kept : TidyKept d t
  kept = tidied-kept d (fault-chained v d h)

  -- a segment in use ends by V
  ends : (s : ℕ) → 1 ≤ s → s ≤ highest t → first_of (segment t s) + total (entries t s) ≤ 65535
  ends s l m =
      let x = fault-chained v d h in
      let k : s ≤ highest d = omega (arith, highest-same d t kept) in
      omega (arith, first-same d t kept s l, total-same d t kept x s l k, ends_by v d x (unbroken v d h).blocks s l k, volume v d h)

  area-enterable : (a : Area) → Stands (place_of_area (slot_words t) a) t n → Enterable t (spot_at (place_of_area (slot_words t) a)) n
  area-enterable a s =
      let w : ℕ = slot_words t in
      let b : ℕ = 512 * (a.seg - 1) in
      let at : b + (5 + a.before * w + length_word) ≡ b + 5 + a.before * w + length_word = omega arith in
      let j : blocks (get_or (entries t a.seg) a.before []) ≡ a.size =
      entry-blocks t a.seg a.before s.among (omega (arith, s.inside, s.low)) ∙ rw at (sym s.word) in
      record {
        chained = kept.chained;
        chosen = record {
          low = s.low;
          high = s.high;
          there = s.among;
          costs = s.costs;
          cheap = s.cheap;
          place = omega arith;
          fits = omega (arith, j, s.long);
        };
        room = s.roomy;
        sums = ends a.seg s.low s.high;
      }

  pub enterable : (p : AreaPlace) → Fitted (Some p) t n → Enterable t (spot_at p) n
  enterable p k =
      let b = chosen-area (slot_words t) (first_fit n (eligibles (areas t (chain t)))) p k.is in
      rw b.2 (area-enterable b.0 (rw b.2 at k.stands))

  -- the outcome
  placed_area : (a : Area) (p : AreaPlace) → p ≡ place_of_area (slot_words t) a → first_fit n (eligibles (areas t (chain t))) ≡ some a
      → (name : Name) (channel date : ℕ)
      → placed_in d name n channel date
      ≡ success p.first n date (entered_at t (area_of (spot_at p))) (entered t (new_of t name n channel date) n (area_of (spot_at p)))
  placed_area a p q e name channel date =
      let i : first_fit n (eligibles (areas t (chain d))) ≡ some a =
      ap (λ (ss : List ℕ). first_fit n (eligibles (areas t ss))) (sym kept.links) ∙ e in
      let w : slot_words t ≡ slot_words d = slots_same d t kept in
      rw (i, q, w, same_area t (new_of d name n channel date) n (slot_words d) a, same-position t (slot_words d) a)

  pub placed_at : (p : AreaPlace) → Fitted (Some p) t n → (name : Name) (channel date : ℕ)
      → placed_in d name n channel date
      ≡ success p.first n date (entered_at t (area_of (spot_at p))) (entered t (new_of t name n channel date) n (area_of (spot_at p)))
  placed_at p k =
      let b = chosen-area (slot_words t) (first_fit n (eligibles (areas t (chain t)))) p k.is in
      placed_area b.0 p b.2 b.1

  -- an area that fits is chosen
  pub somewhere : Fitted None t n → Fits d n → ⊥
  somewhere k g =
      let i : first_fit n (eligibles (areas t (chain d))) ≡ none =
      ap (λ (ss : List ℕ). first_fit n (eligibles (areas t ss))) (sym kept.links)
      ∙ chosen_none (slot_words t) (first_fit n (eligibles (areas t (chain t)))) k.is in
      false≢true (sym g ∙ ap (λ (o : Option Area). is_none o) i)

  -- the first block fits a word
  pub first_small : (p : AreaPlace) → Fitted (Some p) t n → p.first ≤ 65535
  first_small p k =
      let x = k.stands in
      omega (arith, ends p.seg x.low x.high, x.ends)
