-- A part of a segment's slots, rendered with the new entry or as it is. The part is m slots of the words l, and the area stands
-- after k of them: that is all that an insertion needs, whether into a whole segment or into a half. Half of a segment always has
-- room for the new entry and a gap, since a segment has at least 22 slots. Assumes nothing.
use Prim.Native.Nat.{ℕ, ◌+◌, ◌*◌, ◌/◌, ◌≤◌, ◌<◌}
use mathlib.Core.Path.{◌≡◌, refl, sym, ◌∙◌}
use mathlib.Core.Bool.{Bool, true, false, cond}
use mathlib.Core.List.{List, []}
use native.Mathlib.Omega.{arith}
use native.Mathlib.Nat.{suc-mul, add-mul, mul-le-mul_right, div-mul-le_self, le-div_iff_mul-le}
use lib.ListN.{length, get_or, take, drop}
use lib.Seq.{length-take-le, get_or-take, get_or-drop}
use lib.Dec.{eqb}
use Rattle.meaning.specs.Kinds.{empty_status}
use Rattle.meaning.specs.Words.{Entry, blocks, chunks}
use Rattle.meaning.specs.Requests.{empty_entry, render}
use Rattle.meaning.specs.Enter.{inserted}
use Rattle.render.specs.Anew.{gap_words, inserted_words, rendered_words, Inserting}
use Rattle.walks.proofs.Slots.{at-chunks}
use Rattle.walks.proofs.Flat.{flat-chunks, entry_length}
use Rattle.render.proofs.Anew.{blank, inserted-words, inserted-length, rendered}

-- m slots of the words l, with the area after k of them; code has the area's word p and the words' count q
pub record Part (l : List ℕ) (new : Entry) (m k p q : ℕ) : Type 0 where
  pub low : k < m
  pub wide : 7 ≤ length new
  pub narrow : length new ≤ 23
  pub fit : m * length new ≤ length l
  pub from : p ≡ k * length new
  pub to : q ≡ m * length new
  pub long : blocks new ≤ blocks (get_or (chunks m (length new) l) k [])

module _ {l : List ℕ} {new : Entry} {m k p q : ℕ} (i : Part l new m k p q) where
  next-slot : k * length new + length new ≤ m * length new
  next-slot = omega (arith, suc-mul k (length new), mul-le-mul_right (length new) i.low)

  part_length : length (take q l) ≡ m * length new
  part_length = length-take-le q l (omega (arith, i.to, i.fit)) ∙ i.to

  area-blocks : blocks (get_or (chunks m (length new) l) k []) ≡ get_or (take q l) (p + 4) 0
  area-blocks =
      rw (at-chunks m k (length new) l i.low)
      (get_or-take (length new) (drop (k * length new) l) 4 0 (omega (arith, i.wide))
      ∙ get_or-drop (k * length new) l 4 0
      ∙ rw i.from (sym (get_or-take q l (k * length new + 4) 0 (omega (arith, i.to, i.wide, next-slot)))))

  pub part_inserting : (cost : ℕ) → Inserting (take q l) p cost new
  part_inserting cost = record {
    wide = i.wide;
    narrow = i.narrow;
    slot = omega (arith, part_length, next-slot, i.from);
    fits = omega (arith, area-blocks, i.long);
  }

  pub part_room : (cost : ℕ) → 5 + m * length new + length new + length (gap_words (length new) cost) < 512
      → 5 + length (inserted_words p cost new (take q l)) < 512
  part_room cost h = omega (arith, inserted-length p cost new (take q l) (omega (arith, part_length, next-slot, i.from)), part_length)

  pub part-is : (header : List ℕ) (cost : ℕ)
      → rendered_words header (inserted_words p cost new (take q l))
      ≡ render header (inserted (length new) new (blocks new) cost k (chunks m (length new) l))
  part-is header cost =
      rw (
        i.from,
        i.to,
        rendered header (inserted (length new) new (blocks new) cost k (chunks m (length new) l)),
        inserted-words m k (length new) l i.low i.wide i.fit cost new refl,
      )

-- slots with no new entry
pub plain-is : (header l : List ℕ) (m w q : ℕ) → q ≡ m * w → rendered_words header (take q l) ≡ render header (chunks m w l)
plain-is header l m w q e = rw (e, rendered header (chunks m w l), flat-chunks m w l)

-- room
gap-short : (w cost : ℕ) → 7 ≤ w → length (gap_words w cost) ≤ w
unfolding gap_words
gap-short w cost h = by_cost (eqb cost 2)
  where
    by_cost : (x : Bool) → length (cond x (empty_entry w 0) []) ≤ w
    by_cost true = omega (arith, entry_length w empty_status blank 0 0 0 h)
    by_cost false = omega arith

-- n slots more than m
more : (m n w : ℕ) → m + n ≤ 507 / w → m * w + n * w ≤ 507
more m n w h = omega (arith, add-mul m n w, mul-le-mul_right w h, div-mul-le_self 507 w)

pub half_room : (m n w cost : ℕ) → 7 ≤ w → w ≤ 23 → m ≤ 507 / w → n ≤ m / 2 + 1
    → 5 + n * w + w + length (gap_words w cost) < 512
half_room m n w cost wide narrow h k =
    let s : 22 ≤ 507 / w = (le-div_iff_mul-le {k = w} {x = 22} {y = 507} (omega arith)).1 (omega arith) in
    omega (arith, more n 3 w (omega arith), gap-short w cost wide)
