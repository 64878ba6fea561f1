-- A segment's entries, whole or in two halves, as parts of its words. The entries are slots from word 5 on; the first h of them are
-- slots from there too, and the rest from word 5 + h·w on. The area stands after k entries of the segment, so after k of the first
-- half or after k - h of the second. Assumes nothing.
use Prim.Native.Nat.{ℕ, zero, suc, ◌+◌, ◌*◌, ◌-◌, ◌/◌, ◌≤◌, ◌<◌}
use mathlib.Core.Path.{◌≡◌, sym, ap, ◌∙◌}
use mathlib.Core.List.{List, [], ◌∷◌}
use native.Mathlib.Omega.{arith}
use native.Mathlib.Nat.{add-mul, suc-mul, mul-le-mul_right, div-mul-le_self}
use lib.ListN.{length, get_or, take, drop, set, length-take, length-drop}
use lib.Seq.{drop-drop}
use borrow.Author.Tests.{lt-ltb, le-ltb}
use Rattle.meaning.specs.Words.{Entry, blocks, chunks, slots, upto, total, link_of, first_of, slot_count}
use Rattle.insert.specs.declared.place.Spot.{Spot}
use Rattle.render.specs.Anew.{gap_words, inserted_words, rendered_words, Inserting, inserted_into, Insertable}
use Rattle.insert.specs.Spots.{Slot, Half, whole_segment, old_segment, fresh_segment}
use Rattle.walks.proofs.Slots.{first-slots, entries-slots, entries-count, drop-chunks, at-chunks}
use Rattle.walks.proofs.Words.{word}
use Rattle.segment.proofs.Ahead.{slots-room}
use Rattle.render.proofs.Parts.{Part, part_inserting, part_room, part-is, plain-is, half_room}

-- the entries of a segment, and how many
abbrev entries_in : List ℕ → ℕ → List Entry
entries_in g w = upto (slots w g)

abbrev count_in : List ℕ → ℕ → ℕ
count_in g w = length (upto (slots w g))

-- words of the slots between two counts
between : (a b w : ℕ) → a ≤ b → b * w ≡ a * w + (b - a) * w
between a b w h = let e : a + (b - a) ≡ b = omega arith in rw (← add-mul a (b - a) w, e)

module _ {g : List ℕ} {new : Entry} {p : Spot} (s : Slot g new p) where
  are-slots : entries_in g (length new) ≡ chunks (count_in g (length new)) (length new) (drop 5 g)
  unfolding slots
  are-slots = entries-slots (507 / length new) (length new) (drop 5 g)

  few : count_in g (length new) ≤ 507 / length new
  few = entries-count (length new) g

  pub room : 5 + count_in g (length new) * length new ≤ 512
  room = slots-room (count_in g (length new)) (length new) few

  after-header : length (drop 5 g) ≡ 507
  after-header = length-drop 5 g ∙ omega (arith, s.full)

  -- the area, in the whole segment
  area-is : get_or (entries_in g (length new)) p.before [] ≡ take (length new) (drop (5 + p.before * length new) g)
  area-is =
      ap (λ (es : List Entry). get_or es p.before []) are-slots
      ∙ at-chunks (count_in g (length new)) p.before (length new) (drop 5 g) s.there
      ∙ rw (drop-drop (p.before * length new) 5 g)

  -- the first n entries, with the area among them
  front-part : (n q : ℕ) → p.before < n → n ≤ count_in g (length new) → q ≡ n * length new
      → Part (drop 5 g) new n p.before (p.word - 5) q
  front-part n q low h e = record {
    low = low;
    wide = s.wide;
    narrow = s.narrow;
    fit = omega (arith, after-header, room, mul-le-mul_right (length new) h);
    from = omega (arith, s.place);
    to = e;
    long =
        rw (at-chunks n p.before (length new) (drop 5 g) low, drop-drop (p.before * length new) 5 g, ← area-is) s.fits;
  }

  -- those after the first h, with the area among them
  back-part : (h q : ℕ) → h ≤ p.before → q ≡ (count_in g (length new) - h) * length new
      → Part (drop (5 + h * length new) g) new (count_in g (length new) - h) (p.before - h) (p.word - (5 + h * length new)) q
  back-part h q low e =
      let w : ℕ = length new in
      let m : ℕ = count_in g (length new) in
      let t = s.there in
      let a = between h p.before w low in
      let b = between h m w (omega arith) in
      let r = room in
      let j : 5 + h * w + (p.before - h) * w ≡ 5 + p.before * w = omega arith in
      record {
        low = omega arith;
        wide = s.wide;
        narrow = s.narrow;
        fit = rw (length-drop (5 + h * w) g) (omega (arith, s.full));
        from = omega (arith, s.place);
        to = e;
        long =
            rw (
              at-chunks (m - h) (p.before - h) w (drop (5 + h * w) g) (omega arith),
              drop-drop ((p.before - h) * w) (5 + h * w) g,
              j,
              ← area-is,
            )
            s.fits;
      }

  -- the whole segment, by the count n of its entries
  pub counted_room : (n : ℕ) → n ≡ count_in g (length new) → 5 + n * length new ≤ 512
  counted_room n e = rw e room

  whole_part : (n : ℕ) → n ≡ count_in g (length new)
      → Part (drop 5 g) new n p.before (p.word - 5) (5 + n * length new - 5)
  whole_part n e = front-part n (5 + n * length new - 5) (omega (arith, e, s.there)) (omega arith) (omega arith)

  area-blocks : blocks (get_or (entries_in g (length new)) p.before []) ≡ get_or g (p.word + 4) 0
  area-blocks = ap blocks area-is ∙ word g (5 + p.before * length new) (length new) 4 (omega (arith, s.wide)) ∙ rw s.place

  pub whole_asks : (n : ℕ) → n ≡ count_in g (length new) → 1 ≤ p.cost → p.cost ≤ 2 → n + p.cost < slot_count (length new)
      → Insertable g (5 + n * length new) p.word p.cost new
  whole_asks n e h k l =
      let w : ℕ = length new in
      let below : suc p.before ≤ n = omega (arith, e, s.there) in
      record {
        whole = s.full;
        wide = s.wide;
        narrow = s.narrow;
        from = omega (arith, s.place);
        slot = omega (arith, s.place, suc-mul p.before w, mul-le-mul_right w below);
        costs = h;
        cheap = k;
        room =
            omega
            (arith, add-mul n p.cost w, suc-mul (n + p.cost) w, mul-le-mul_right w l, div-mul-le_self 507 w, s.wide);
        fits = omega (arith, area-blocks, s.fits);
      }

  pub whole_is : (n : ℕ) (o : List ℕ) → n ≡ count_in g (length new)
      → o ≡ inserted_into g (5 + n * length new) p.word p.cost new
      → o ≡ whole_segment g new p
  unfolding whole_segment inserted_into
  whole_is n o e q =
      let c : chunks n (length new) (drop 5 g) ≡ entries_in g (length new) =
      ap (λ (i : ℕ). chunks i (length new) (drop 5 g)) e ∙ sym are-slots in
      q ∙ part-is (whole_part n e) (take 5 g) p.cost ∙ rw c

-- the blocks of the first entries are no more than all
total-take : (n : ℕ) (es : List Entry) → total (take n es) ≤ total es
unfolding total
total-take zero es = omega arith
total-take (suc n) [] = omega arith
total-take (suc n) (e ∷ es) = omega (arith, total-take n es)

module _ {g : List ℕ} {new : Entry} {p : Spot} {h : ℕ} (f : Half g new p h) where
  -- the first half, as slots, and the rest
  front-slots : take h (entries_in g (length new)) ≡ chunks h (length new) (drop 5 g)
  unfolding slots
  front-slots = first-slots (507 / length new) h (length new) (drop 5 g) f.kept.within

  back-slots : drop h (entries_in g (length new))
      ≡ chunks (count_in g (length new) - h) (length new) (drop (5 + h * length new) g)
  back-slots =
      ap (λ (es : List Entry). drop h es) (are-slots f.slot)
      ∙ drop-chunks (count_in g (length new)) h (length new) (drop 5 g) f.kept.within
      ∙ rw (drop-drop (h * length new) 5 g)

  pub front-room : 5 + h * length new ≤ 512
  front-room = omega (arith, room f.slot, mul-le-mul_right (length new) f.kept.within)

  -- both halves lie in the segment
  pub rooms : (n : ℕ) → n ≡ count_in g (length new) → (h * length new ≤ n * length new) × (5 + n * length new ≤ 512)
  rooms n e = (mul-le-mul_right (length new) (omega (arith, e, f.kept.within)), counted_room f.slot n e)

  -- the area among the rest begins after the first half
  pub back-before : h ≤ p.before → 5 + h * length new ≤ p.word
  back-before k = omega (arith, f.slot.place, mul-le-mul_right (length new) k)

  -- each half has room for the new entry and a gap
  front-short : 5 + h * length new + length new + length (gap_words (length new) p.cost) < 512
  front-short =
      half_room (count_in g (length new)) h (length new) p.cost f.slot.wide f.slot.narrow
      (few f.slot) f.kept.high

  back-short : 5 + (count_in g (length new) - h) * length new + length new + length (gap_words (length new) p.cost) < 512
  back-short =
      half_room (count_in g (length new)) (count_in g (length new) - h) (length new) p.cost f.slot.wide
      f.slot.narrow (few f.slot) (omega (arith, f.kept.low))

  -- the first block of the rest
  pub first_small : (t : ℕ) → t ≡ total (chunks h (length new) (drop 5 g)) → first_of g + t ≤ 65535
  first_small t e = omega (arith, e, ap total front-slots, total-take h (entries_in g (length new)), f.sums)

  -- the old segment: with the area, and without it
  low_part : p.before < h → Part (drop 5 g) new h p.before (p.word - 5) (5 + h * length new - 5)
  low_part k = front-part f.slot h (5 + h * length new - 5) k f.kept.within (omega arith)

  pub old_asks : p.before < h
      → Inserting (take (5 + h * length new - 5) (drop 5 g)) (p.word - 5) p.cost new
      × (5 + length (inserted_words (p.word - 5) p.cost new (take (5 + h * length new - 5) (drop 5 g))) < 512)
  old_asks k =
      (part_inserting (low_part k) p.cost, part_room (low_part k) p.cost front-short)

  pub old-inserted : (header o : List ℕ) (next : ℕ) → header ≡ set (take 5 g) 1 next → p.before < h
      → o ≡ rendered_words header (inserted_words (p.word - 5) p.cost new (take (5 + h * length new - 5) (drop 5 g)))
      → o ≡ old_segment g new p h next
  unfolding old_segment
  old-inserted header o next e k q =
      q ∙ part-is (low_part k) header p.cost ∙ rw (lt-ltb p.before h k, front-slots, e)

  pub front_fits : 5 + length (take (5 + h * length new - 5) (drop 5 g)) < 512
  front_fits = omega (arith, length-take (5 + h * length new - 5) (drop 5 g), front-short)

  pub old-plain : (header o : List ℕ) (next : ℕ) → header ≡ set (take 5 g) 1 next → h ≤ p.before
      → o ≡ rendered_words header (take (5 + h * length new - 5) (drop 5 g))
      → o ≡ old_segment g new p h next
  unfolding old_segment
  old-plain header o next e k q =
      q
      ∙ plain-is header (drop 5 g) h (length new) (5 + h * length new - 5) (omega arith)
      ∙ rw (le-ltb p.before h k, front-slots, e)

  -- the new segment, by the count n of all entries
  module _ (n : ℕ) (c : n ≡ count_in g (length new)) where
    rest-words : 5 + n * length new - (5 + h * length new) ≡ (count_in g (length new) - h) * length new
    rest-words = rw c (omega (arith, between h (count_in g (length new)) (length new) f.kept.within))

    high_part : h ≤ p.before
        → Part (drop (5 + h * length new) g) new (count_in g (length new) - h) (p.before - h)
        (p.word - (5 + h * length new)) (5 + n * length new - (5 + h * length new))
    high_part k = back-part f.slot h (5 + n * length new - (5 + h * length new)) k rest-words

    pub back_fits : 5 + length (take (5 + n * length new - (5 + h * length new)) (drop (5 + h * length new) g)) < 512
    back_fits =
        omega (arith, length-take (5 + n * length new - (5 + h * length new)) (drop (5 + h * length new) g), rest-words, back-short)

    pub fresh_asks : h ≤ p.before
        → Inserting (take (5 + n * length new - (5 + h * length new)) (drop (5 + h * length new) g)) (p.word - (5 + h * length new))
        p.cost new
        × (5 + length (inserted_words (p.word - (5 + h * length new)) p.cost new
        (take (5 + n * length new - (5 + h * length new)) (drop (5 + h * length new) g))) < 512)
    fresh_asks k =
        (part_inserting (high_part k) p.cost, part_room (high_part k) p.cost back-short)

    module _ (header o : List ℕ) (all extra t : ℕ) (e : header ≡ all ∷ link_of g ∷ 0 ∷ extra ∷ (first_of g + t) ∷ [])
        (u : t ≡ total (chunks h (length new) (drop 5 g))) where
      pub fresh-inserted : h ≤ p.before
          → o ≡ rendered_words header
          (inserted_words (p.word - (5 + h * length new)) p.cost new
          (take (5 + n * length new - (5 + h * length new)) (drop (5 + h * length new) g)))
          → o ≡ fresh_segment g new p h all extra
      unfolding fresh_segment
      fresh-inserted k q =
          q
          ∙ part-is (high_part k) header p.cost
          ∙ rw (le-ltb p.before h k, back-slots, front-slots, e, u)

      pub fresh-plain : p.before < h
          → o ≡ rendered_words header (take (5 + n * length new - (5 + h * length new)) (drop (5 + h * length new) g))
          → o ≡ fresh_segment g new p h all extra
      unfolding fresh_segment
      fresh-plain k q =
          q
          ∙ plain-is header (drop (5 + h * length new) g) (count_in g (length new) - h) (length new) _ rest-words
          ∙ rw (lt-ltb p.before h k, back-slots, front-slots, e, u)
