-- The first fit in chain order. Of two lists of areas, one after the other, it is the first fit of the first list, or else that
-- of the second; so it is found in the first segment that has one. A place that stands in a segment's part of the slice stands in
-- the directory, counted from where the part begins. Assumes nothing.
use Prim.Native.Nat.{ℕ, ◌+◌, ◌-◌, ◌≤◌, ◌<◌}
use mathlib.Core.Path.{◌≡◌, refl, sym, ◌∙◌}
use mathlib.Core.Bool.{Bool, true, false, cond}
use mathlib.Core.List.{List, [], ◌∷◌, ◌++◌}
use mathlib.Core.Option as maybe
use mathlib.Core.Option.{none, some}
use Rattle.std.specs.Prelude.{Option, Some, None}
use native.Mathlib.Omega.{arith}
use lib.ListN.{length}
use lib.Dec.{leb, ltb}
use Rattle.meaning.specs.Words.{segments, first_of, highest, slot_words, capacity, slots, upto, entries, chain_from, chain}
use Rattle.meaning.specs.Enter.{Area, has_room, areas, eligibles, first_fit}
use Rattle.walks.specs.Links.{linked}
use Rattle.chain.proofs.Links.{part-is, link_at, Next}
use Rattle.walks.proofs.Words.{base, header}
use Rattle.chain.proofs.Replaced.{part_of}
use Rattle.choice.specs.Choice.{all_areas, place_of_area, chosen_of, Stands, Fitted}
use Rattle.choice.specs.Room.{room_by}
use Rattle.choice.specs.Judged.{StandsIn, FitIn}
use Rattle.choice.specs.declared.choose.AreaPlace.{AreaPlace}
use Rattle.choice.proofs.Visits.{areas-same, areas_at, areas-next, areas-none}

-- what is chosen among areas
abbrev pub choice : ℕ → ℕ → List Area → Option AreaPlace
choice w m xs = chosen_of w (first_fit m (eligibles xs))

-- the first of two choices
abbrev pub or_else : Option AreaPlace → Option AreaPlace → Option AreaPlace
or_else (Some p) c = Some p
or_else None c = c

choice-append : (w m : ℕ) (xs ys : List Area) → choice w m (xs ++ ys) ≡ or_else (choice w m xs) (choice w m ys)
unfolding eligibles first_fit
choice-append w m [] ys = refl
choice-append w m (x ∷ xs) ys = go x.eligible (leb m x.size) refl (choice-append w m xs ys)
  where
    go : (y z : Bool) → leb m x.size ≡ z → choice w m (xs ++ ys) ≡ or_else (choice w m xs) (choice w m ys)
        → chosen_of w (first_fit m (cond y (x ∷ eligibles (xs ++ ys)) (eligibles (xs ++ ys))))
        ≡ or_else (chosen_of w (first_fit m (cond y (x ∷ eligibles xs) (eligibles xs)))) (choice w m ys)
    go true true e h = rw e
    go true false e h = rw e h
    go false z e h = h

-- the invariant of the walk over the chain: left segments are ahead, from s on, and none before had a fit
pub record Choosing (d : List ℕ) (m left s : ℕ) : Type 0 where
  pub links : linked left d s ≡ true
  pub same : choice (slot_words d) m (areas d (chain_from left d s)) ≡ choice (slot_words d) m (all_areas d)

pub starts : (d : List ℕ) (m : ℕ) → linked (highest d) d 1 ≡ true → Choosing d m (highest d) 1
unfolding chain
starts d m l = record { links = l; same = refl }

-- the room in segment s, as code tests it
abbrev room_at : List ℕ → ℕ → ℕ → Bool
room_at d s = room_by (slot_words d) (ltb (highest d) (segments d)) (length (upto (slots (slot_words d) (part_of d s))))

room-at : (d : List ℕ) (s c : ℕ) → room_at d s c ≡ has_room d (entries d s) c
unfolding has_room capacity entries
room-at d s c = rw (part-is d s)

-- a place in that part
stands : (p : AreaPlace) (d : List ℕ) (s m : ℕ) → 1 ≤ s → s ≤ highest d → StandsIn p (part_of d s) (slot_words d) s (room_at d s) m
    → Stands p d m
unfolding entries
stands p d s m low high h =
    let i : p.at - base s + 4 < 512 = omega (arith, h.inside, h.low) in
    let j : base s + (p.at - base s + 4) ≡ p.at + 4 = omega (arith, h.low) in
    record {
      low = omega (arith, h.seg);
      high = omega (arith, h.seg);
      inside = omega (arith, h.seg, h.inside);
      among = rw (h.seg, ← part-is d s) h.among;
      word = h.word ∙ rw (part-is d s, header d s (p.at - base s + 4) i, j);
      ends = rw (h.seg, ← part-is d s) h.ends;
      long = h.long;
      some = h.some;
      costs = h.costs;
      cheap = h.cheap;
      roomy = rw h.seg (sym (room-at d s p.cost) ∙ h.roomy);
    }

module _ {d : List ℕ} {m left s : ℕ} (inv : Choosing d m left s) where
  pub none-chosen : left ≤ 0 → Fitted None d m
  unfolding eligibles first_fit
  none-chosen h = record { is = rw (areas-none left d s h) at inv.same; stands = tt }

  -- one segment more, and c the choice among its areas
  module _ (h : 0 < left) (c : Option AreaPlace) (f : FitIn c (part_of d s) (slot_words d) s (room_at d s) m) where
    one-chosen : or_else c (choice (slot_words d) m (areas d (chain_from (left - 1) d (link_at d s))))
        ≡ choice (slot_words d) m (all_areas d)
    unfolding entries
    one-chosen =
        rw (
          f.is,
          areas-same (room_at d s) (has_room d (entries d s)) (λ c k l. room-at d s c) s 0 (first_of (part_of d s)) false
              (upto (slots (slot_words d) (part_of d s))),
          part-is d s,
          ← choice-append (slot_words d) m (areas_at d s) (areas d (chain_from (left - 1) d (link_at d s))),
          ← areas-next left d s h,
        )
        inv.same

    pub pass_by : c ≡ None → linked (left - 1) d (link_at d s) ≡ true → Choosing d m (left - 1) (link_at d s)
    pass_by e l = record { links = l; same = rw e at one-chosen }

    pub chosen-here : (p : AreaPlace) → c ≡ Some p → Next left d s → Fitted (Some p) d m
    chosen-here p e v = record {
      is = rw e at one-chosen;
      stands = stands p d s m v.low v.high (rw e at f.stands);
    }

-- for callers: the area behind a choice, or none
pub chosen-area : (w : ℕ) (o : maybe.Option Area) (p : AreaPlace) → Some p ≡ chosen_of w o
    → (a : Area) × (o ≡ some a) × (p ≡ place_of_area w a)
chosen-area w none p e = let z : ◌≡◌ {A = ℕ} 0 1 = cc in absurd (omega arith)
chosen-area w (some a) p e = (a, refl, (cc))

pub chosen_none : (w : ℕ) (o : maybe.Option Area) → None ≡ chosen_of w o → o ≡ none
chosen_none w none e = refl
chosen_none w (some a) e = let z : ◌≡◌ {A = ℕ} 0 1 = cc in absurd (omega arith)
