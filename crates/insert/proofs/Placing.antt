-- From a segment to the directory. The part of the directory that code lends is the segment of the area, and the array that it makes
-- of the new entry begins with the entry's words; so what is promised of a segment's words is what the meaning says of the segment.
-- A segment copied back leaves the words before and after it. Assumes nothing.
use Prim.Native.Nat.{ℕ, ◌+◌, ◌*◌, ◌-◌, ◌/◌, ◌≤◌, ◌<◌}
use mathlib.Core.Path.{◌≡◌, sym, ap, ◌∙◌}
use mathlib.Core.Bool.{true, false}
use mathlib.Core.List.{List}
use native.Mathlib.Omega.{arith}
use lib.ListN.{length, get_or, take, set, length-take, length-drop}
use lib.Seq.{paste, take-length, get_or-take}
use lib.Dec.{leb, ltb}
use borrow.Rule.Slice.PartMut.{put_mid}
use borrow.Author.Tests.{le-leb, lt-leb, ltb-true}
use Rattle.meaning.specs.declared.Position.{Position}
use Rattle.meaning.specs.Kinds.{tentative_status}
use Rattle.meaning.specs.Words.{Entry, segment, slot_words, slot_count, capacity, slots, upto, entries, blocks, highest, segments}
use Rattle.meaning.specs.Requests.{entry_of}
use Rattle.meaning.specs.Enter.{with_segment, header_of, kept, unsplit, split, entered, has_room, new_after, split_at, entered_at}
use Rattle.chain.specs.Chained.{Chained}
use Rattle.chain.proofs.Links.{part-is}
use Rattle.chain.proofs.Replaced.{part_of, part-put}
use Rattle.render.specs.declared.Tentative.{Tentative}
use Rattle.insert.specs.declared.place.Spot.{Spot}
use Rattle.render.specs.Anew.{new_entry}
use Rattle.segment.specs.Count.{Counted}
use Rattle.render.specs.Halves.{KeptOf}
use Rattle.insert.specs.Spots.{area_of, Chosen, Splittable, Enterable, Slot, Half, whole_segment, old_segment, fresh_segment, Put, half_at}
use Rattle.segment.proofs.Writes.{pasted}
use Rattle.walks.proofs.Slots.{entries-count}
use Rattle.walks.proofs.Flat.{render-length, entry_length}
use Rattle.segment.proofs.Ahead.{few-slots, slots-room}
use Rattle.render.proofs.Anew.{entry-take}

-- a segment copied back
pub put-segment : (d : List ℕ) (s : ℕ) (o : List ℕ) → 1 ≤ s → length o ≡ 512
    → paste d (512 * (s - 1)) o (length o) ≡ with_segment d s o
unfolding with_segment
put-segment d s o h e =
    let k : 512 * (s - 1) + 512 ≡ 512 * s = omega arith in
    rw (take-length o, e, k)

pub put_next : (d : List ℕ) (h : ℕ) (o : List ℕ) → length o ≡ 512 → paste d (512 * h) o (length o) ≡ with_segment d (h + 1) o
put_next d h o e =
    let k : h ≡ h + 1 - 1 = omega arith in
    ap (λ (i : ℕ). paste d (512 * i) o (length o)) k ∙ put-segment d (h + 1) o (omega arith) e

-- the part of the directory that is segment s
pub part-full : (d : List ℕ) (s : ℕ) → 1 ≤ s → 512 * s ≤ length d → length (part_of d s) ≡ 512
part-full d s h k = simp (length-take, length-drop) (omega arith)

pub part-entries : (d : List ℕ) (s w : ℕ) → w ≡ slot_words d → upto (slots w (part_of d s)) ≡ entries d s
unfolding entries
part-entries d s w e = rw (part-is d s, e)

-- the new entry, as code has it
module _ {t : List ℕ} {w : ℕ} {a : List ℕ} (e : Tentative) (c : Chained t) (i : w ≡ slot_words t) (q : a ≡ new_entry 23 e) where
  new_is : take w a ≡ new_entry (slot_words t) e
  new_is =
      rw (i, q)
      (entry-take (slot_words t) tentative_status e.name e.length e.channel e.date (omega arith)
      (omega (arith, c.extra)))

  pub new-length : length (take w a) ≡ w
  new-length =
      ap length new_is
      ∙ entry_length (slot_words t) tentative_status e.name e.length e.channel e.date (omega arith)
      ∙ sym i

  new_blocks : blocks (take w a) ≡ e.length
  unfolding entry_of
  new_blocks = ap blocks new_is

  module _ {p : Spot} (h : Chosen t p e.length) where
    inside : 512 * p.seg ≤ length t
    inside = omega (arith, h.high, c.whole)

    same_entries : upto (slots (length (take w a)) (part_of t p.seg)) ≡ entries t p.seg
    same_entries = part-entries t p.seg (length (take w a)) (new-length ∙ i)

    pub slot_of : Slot (part_of t p.seg) (take w a) p
    slot_of = record {
      full = part-full t p.seg h.low inside;
      wide = omega (arith, new-length, i);
      narrow = omega (arith, new-length, i, c.extra);
      there = rw same_entries h.there;
      place = rw (new-length, i) h.place;
      fits = rw (new_blocks, same_entries) h.fits;
    }

    pub count_of : (n : ℕ) → n ≡ length (entries t p.seg) → n ≡ length (upto (slots (length (take w a)) (part_of t p.seg)))
    count_of n k = rw same_entries k

    pub room_of : (n : ℕ) → n + p.cost ≤ capacity t → n + p.cost < slot_count (length (take w a))
    unfolding capacity
    room_of n k = rw (new-length, i) (omega (arith, h.costs))

    pub unsplit-is : (o : List ℕ) → o ≡ whole_segment (part_of t p.seg) (take w a) p
        → put_mid (512 * (p.seg - 1)) (512 * (p.seg - 1) + 512 - 512 * (p.seg - 1)) t o
        ≡ unsplit t (new_entry (slot_words t) e) e.length (area_of p)
    unfolding whole_segment unsplit header_of
    unsplit-is o k =
        part-put t o p.seg h.low ∙ rw (k, new_blocks, same_entries, new-length, part-is t p.seg, new_is, i)

    pub counted_of : (n : ℕ) → n ≡ length (entries t p.seg) → Counted n w (part_of t p.seg)
    counted_of n k =
        let part : List ℕ = part_of t p.seg in
        let m : n ≡ length (upto (slots w part)) = rw (part-entries t p.seg w i) k in
        let f : n ≤ slot_count w = omega (arith, m, entries-count w part) in
        record { is = m; few = f; small = omega (arith, few-slots w); room = slots-room n w f }

    pub half_of : (n : ℕ) → KeptOf n (upto (slots w (part_of t p.seg))) → Splittable t p.seg
        → Half (part_of t p.seg) (take w a) p n
    half_of n k s = record {
      slot = slot_of;
      kept = rw new-length k;
      sums = rw (same_entries, part-is t p.seg) s.sums;
    }

    -- both segments lie in the directory, and leave its length
    pub old_kept : (n : ℕ) (o d₁ : List ℕ) → o ≡ old_segment (part_of t p.seg) (take w a) p n (highest t + 1)
        → d₁ ≡ paste t (512 * (p.seg - 1)) o (length o)
        → length d₁ ≡ length t
    unfolding old_segment
    old_kept n o d₁ u e₁ =
        let lo : length o ≡ 512 = ap length u ∙ render-length _ _ in
        (pasted t d₁ o (512 * (p.seg - 1)) (omega (arith, inside, h.low)) e₁).long

    pub fresh_inside : (n x y : ℕ) (f d₁ : List ℕ) → f ≡ fresh_segment (part_of t p.seg) (take w a) p n x y
        → Splittable t p.seg
        → length d₁ ≡ length t
        → 512 * highest t + length f ≤ length d₁
    unfolding fresh_segment
    fresh_inside n x y f d₁ v s l =
        let lf : length f ≡ 512 = ap length v ∙ render-length _ _ in
        let m = s.more in
        omega arith

    pub split_is : (n : ℕ) (o f d₁ d₂ : List ℕ)
        → KeptOf n (upto (slots w (part_of t p.seg)))
        → o ≡ old_segment (part_of t p.seg) (take w a) p n (highest t + 1)
        → f ≡ fresh_segment (part_of t p.seg) (take w a) p n (get_or t 0 0) (get_or t 3 0)
        → d₁ ≡ paste t (512 * (p.seg - 1)) o (length o)
        → d₂ ≡ paste d₁ (512 * highest t) f (length f)
        → set d₂ 2 (highest t + 1) ≡ split t (new_entry (slot_words t) e) e.length (area_of p)
    unfolding old_segment fresh_segment split header_of
    split_is n o f d₁ d₂ k u v e₁ e₂ =
        let s : ℕ = p.seg in
        let m : n ≡ kept (entries t s) = k.is ∙ ap kept (part-entries t s w i) in
        let lo : length o ≡ 512 = ap length u ∙ render-length _ _ in
        let lf : length f ≡ 512 = ap length v ∙ render-length _ _ in
        let x : d₂ ≡ with_segment (with_segment t s o) (highest t + 1) f =
        e₂ ∙ put_next d₁ (highest t) f lf ∙ rw (e₁, put-segment t s o h.low lo) in
        rw (
          x,
          u,
          v,
          get_or-take 5 (segment t s) 1 0 (omega arith),
          get_or-take 5 (segment t s) 4 0 (omega arith),
          new_blocks,
          same_entries,
          new-length,
          part-is t s,
          new_is,
          m,
          i,
        )

    -- where the new entry is after the split
    pub half_is : (n : ℕ) → KeptOf n (upto (slots w (part_of t p.seg))) → half_at p n (highest t + 1) ≡ split_at t (area_of p)
    unfolding half_at split_at
    half_is n k = rw (k.is ∙ ap kept (part-entries t p.seg w i))

-- the numbers of a chosen spot fit words
pub spot-small : (t : List ℕ) (p : Spot) (n : ℕ) → Chained t → Chosen t p n
    → (p.seg ≤ 65535) × (highest t + 1 ≤ 65535) × (p.before + p.cost ≤ 65535)
unfolding entries
spot-small t p n c h =
    let m = entries-count (slot_words t) (segment t p.seg) in
    let q = few-slots (slot_words t) in
    (omega (arith, h.high, c.whole, c.few), omega (arith, c.whole, c.few), omega (arith, h.there, h.cheap))

-- the choice between the two, by the count n of the segment's entries
module _ {t : List ℕ} {p : Spot} {b w n : ℕ} (r : Enterable t p b) (i : w ≡ slot_words t) (k : Counted n w (part_of t p.seg)) where
  pub count-is : n ≡ length (entries t p.seg)
  count-is = k.is ∙ ap length (part-entries t p.seg w i)

  pub fits_in : n + p.cost < 507 / w → n + p.cost ≤ capacity t
  unfolding capacity
  fits_in h = rw (← i) (omega arith)

  lacks : 507 / w ≤ n + p.cost → leb (length (entries t p.seg) + p.cost) (capacity t) ≡ false
  unfolding capacity
  lacks h = rw (← i, ← count-is) (lt-leb (n + p.cost) (507 / w - 1) (omega (arith, r.chosen.costs)))

  pub splittable : 507 / w ≤ n + p.cost → Splittable t p.seg
  unfolding has_room
  splittable h =
      let e : ltb (highest t) (segments t) ≡ true = rw (lacks h) at r.room in
      record { more = ltb-true (highest t) (segments t) e; sums = r.sums }

  pub entered_whole : (r : Position) (x : List ℕ) (new : Entry) → n + p.cost < 507 / w → r ≡ new_after p.seg p.before p.cost
      → x ≡ unsplit t new b (area_of p) → Put r x (entered_at t (area_of p)) (entered t new b (area_of p))
  unfolding entered entered_at
  entered_whole r x new h g e =
      let f : leb (n + p.cost) (capacity t) ≡ true = le-leb (n + p.cost) (capacity t) (fits_in h) in
      record { position = rw (← count-is, f) g; words = rw (← count-is, f) e }

  pub entered_split : (r : Position) (x : List ℕ) (new : Entry) → 507 / w ≤ n + p.cost
      → Put r x (split_at t (area_of p)) (split t new b (area_of p)) → Put r x (entered_at t (area_of p)) (entered t new b (area_of p))
  unfolding entered entered_at
  entered_split r x new h e = record { position = rw (lacks h) e.position; words = rw (lacks h) e.words }
