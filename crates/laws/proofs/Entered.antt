-- The tentative entry in a sound directory. Where its segment has the slots, that segment is rendered again with the entry inserted;
-- else it is split, and the two halves are the way from it to the next. Either way the directory is sound, and has one more among its
-- living entries: the new one, where the area began, in the segment and slot that the meaning tells.
use Prim.Native.Nat.{ℕ, zero, suc, ◌+◌, ◌*◌, ◌-◌, ◌≤◌, ◌<◌}
use mathlib.Core.Path.{◌≡◌, refl, sym, ap, ap₂, ◌∙◌}
use mathlib.Core.Logic.{◌≢◌}
use mathlib.Core.Bool.{Bool, true, false, cond}
use mathlib.Core.List.{List, [], ◌∷◌, ◌++◌, append-nil}
use mathlib.Core.Option.{none}
use native.Mathlib.Nat.{le-div_iff_mul-le}
use native.Mathlib.Omega.{arith}
use lib.ListN.{length, get_or, take, drop, set, length-set, length-append, length-drop}
use lib.Seq.{get_or-set_same, get_or-set_other, take-set-lt, drop-set-lt, take-append_seam, get_or-append_seam, take-take, take-add, length-take-le}
use lib.Dec.{leb, ltb}
use borrow.Author.Tests.{leb-true, ltb-true, ltb-false}
use Rattle.bools.proofs.Bools.{both}
use Rattle.meaning.specs.declared.Kind.TheVariants.{Empty}
use Rattle.meaning.specs.declared.Position.{Position}
use Rattle.meaning.specs.Words.{segments, segment, total_of, link_of, extra_bytes_of, first_of, highest, slot_words, slot_count, capacity, Entry}
use Rattle.meaning.specs.Words.{kind, blocks, chunks, slots, upto, entries, total}
use Rattle.meaning.specs.Requests.{render}
use Rattle.meaning.specs.Enter.{with_segment, header_of, Area, cost_after, has_room, inserted, kept, unsplit, split, entered}
use Rattle.meaning.specs.Enter.{new_after, split_at, entered_at}
use Rattle.meaning.specs.declared.Key.{Key}
use Rattle.meaning.specs.Keys.{holds, once}
use Rattle.rules.specs.Sound.{Rule2}
use Rattle.rules.specs.Standing.{StandsAt}
use Rattle.rules.proofs.Rule5.{rule1-holds, rule2-holds}
use Rattle.rules.proofs.Soundness.{Sound}
use Rattle.walks.proofs.Filled.{total-append}
use Rattle.walks.proofs.Fits.{cost-small}
use Rattle.walks.proofs.Linked.{Used}
use Rattle.walks.proofs.Words.{header as head-word, header-length, header_word, with_length, with_own, with_other}
use Rattle.walks.proofs.Flat.{render-length}
use Rattle.rules.proofs.Fine.{flag}
use Rattle.laws.proofs.Rendered.{Body, Written, written}
use Rattle.laws.proofs.Living.{Live, living, living_of, seek, counted, Gained, gained-within, gained-few}
use Rattle.laws.proofs.Way.{shape_of, entries_in, spread, Stop, Like}
use Rattle.laws.proofs.Anew.{stop-at, Change, Anew, anew}
use Rattle.laws.proofs.Rewritten.{used-within, used-body, rewritten}
use Rattle.laws.proofs.TidiedSound.{few-living}
use Rattle.laws.proofs.Areas.{Stands, RoomIn, Chosen}
use Rattle.laws.proofs.Inserted.{New, live_at, Added, added_in, inserted_stands}
use Rattle.laws.proofs.Halves.{Parted, parted, Halves, halves}

-- setting the word of H changes no other header word, and no slot
top_head : (d : List ℕ) (s j x : ℕ) → j < 5 → j ≢ 2 → get_or (segment (set d 2 x) s) j 0 ≡ get_or (segment d s) j 0
top_head d s j x h ne =
    head-word (set d 2 x) s j (omega arith)
    ∙ get_or-set_other d 2 (512 * (s - 1) + j) x 0 (λ e. ne (omega arith))
    ∙ sym (head-word d s j (omega arith))

top-slots : (w : ℕ) (d : List ℕ) (s x : ℕ) → slots w (segment (set d 2 x) s) ≡ slots w (segment d s)
unfolding slots segment
top-slots w d s x = ap (chunks (slot_count w) w) (go (s - 1))
  where
    go : (t : ℕ) → drop 5 (take 512 (drop (512 * t) (set d 2 x))) ≡ drop 5 (take 512 (drop (512 * t) d))
    go zero = rw (take-set-lt 512 d 2 x (omega arith)) (drop-set-lt 5 (take 512 d) 2 x (omega arith))
    go (suc t) = rw (drop-set-lt (512 * suc t) d 2 x (omega arith))

taken : (es xs : List Entry) (e : Entry) (ys : List Entry) (k : ℕ) → es ≡ xs ++ e ∷ ys → k ≡ length xs → take k es ≡ xs
taken es xs e ys k q i = rw (q, i, take-append_seam xs (e ∷ ys))

pub record Entered (v : ℕ) (t D : List ℕ) (x : Live) (p : Position) : Type 0 where
  pub sound : Sound v D
  pub gained : Gained x (living_of t) (living_of D)
  pub stands : StandsAt D p.segment p.slot x.first x.entry

module _ (v : ℕ) (t : List ℕ) (st : Sound v t) (a : Area) (n : ℕ) (new : Entry) (ch : Chosen t n a) (nw : New (slot_words t) n new)
    (free : (k : Key) → holds k new ≡ true → seek (holds k) (living_of t) ≡ none) where
  abbrev w : ℕ
  w = slot_words t

  abbrev s : ℕ
  s = a.seg

  abbrev es : List Entry
  es = entries t a.seg

  abbrev b : ℕ
  b = first_of (segment t a.seg)

  x : Stands (RoomIn t a.seg) 0 (first_of (segment t a.seg)) false (entries t a.seg) a
  x = ch.stood.stands

  low : 1 ≤ s
  low = ch.stood.used.0

  high : s ≤ highest t
  high = ch.stood.used.1

  inside : 512 * s ≤ length t
  inside = used-within v t st s high

  bd : Body w es
  bd = used-body v t st s low high

  -- the entries with the new one
  abbrev out : List Entry
  out = inserted (slot_words t) new n a.cost a.before (entries t a.seg)

  ad : Added w new (total x.before) a.cost es out
  ad =
      added_in w n (omega arith) new nw es x.before x.here x.after a.before a.cost x.are
      (omega (arith, x.place))
      x.cost
      x.empty
      (omega (arith, ch.enough, x.size))
      bd.fine
      bd.wide

  -- one more among the living of the segment is one more among all; and no other has its key
  finish : (D : List ℕ) (before after : List Live) → living_of t ≡ before ++ (living b es ++ after)
      → living_of D ≡ before ++ (living b out ++ after)
      → (((k : Key) → once k ≡ true → counted (holds k) (living_of D) ≤ 1) → Sound v D)
      → (p : Position) → StandsAt D p.segment p.slot a.first new → Entered v t D (live_at a.first new) p
  finish D before after was is sound p at =
      record { sound = sound (λ k o. gained-few g (holds k) (few-living v t st k o) (free k)); gained = g; stands = at }
    where
      g : Gained (live_at a.first new) (living_of t) (living_of D)
      g = rw (was, is, x.first) (gained-within before after (ad.gained b))

  -- the area begins behind the entries before it, so many of which stand in any part of the entries that has it
  area_first : b + total (take a.before es) ≡ a.first
  area_first =
      let k : a.before ≡ length x.before = omega (arith, x.place) in
      let e = taken es x.before x.here x.after a.before x.are k in
      omega (arith, ap total e, x.first)

  area_within : a.before < length es
  area_within =
      let l = length-append x.before (x.here ∷ x.after) in
      omega (arith, x.place, ap length x.are)

  -- the new entry's place in a segment of D that has the entries zs with it, after k of them
  new_stands : (D : List ℕ) (z : ℕ) → Used D z → (k : ℕ) (zs : List Entry) → k ≤ length zs
      → entries D z ≡ inserted w new n a.cost k zs → first_of (segment D z) + total (take k zs) ≡ a.first
      → StandsAt D z (k + a.cost) a.first new
  new_stands D z u k zs l q f = inserted_stands D z u w new n a.cost (flag false x.before) k zs x.cost l q a.first f

  -- slots
  h2 : Rule2 t
  h2 = rule2-holds t st.header

  many : 22 ≤ slot_count w
  many = (le-div_iff_mul-le {k = w} (omega arith)).1 (omega (arith, h2.few))

  -- without a split
  whole_entered : length es + a.cost ≤ capacity t
      → Entered v t (unsplit t new n a) (live_at a.first new) (new_after a.seg a.before a.cost)
  unfolding unsplit capacity
  whole_entered fits =
      let r =
      rewritten v t st s low high out
      (record { fine = ad.fine; wide = ad.wide; room = omega (arith, ad.long, many) })
      ad.sum in
      let D = with_segment t s (render (header_of t s) out) in
      let l = area_within in
      finish D r.before r.after r.living_was r.living_is r.sound (new_after a.seg a.before a.cost)
      (new_stands D s (low, rw r.highest high) a.before es (omega arith) r.own (rw r.first area_first))

  -- with a split
  module _ (spare : highest t < segments t) where
    abbrev h : ℕ
    h = kept es

    abbrev next : ℕ
    next = highest t + 1

    abbrev header : List ℕ
    header = header_of t a.seg

    abbrev lower : List Entry
    lower = cond (ltb a.before (kept es)) (inserted w new n a.cost a.before (take (kept es) es)) (take (kept es) es)

    abbrev upper : List Entry
    upper = cond (ltb a.before (kept es)) (drop (kept es) es) (inserted w new n a.cost (a.before - kept es) (drop (kept es) es))

    abbrev new_header : List ℕ
    new_header = total_of t ∷ link_of header ∷ 0 ∷ extra_bytes_of t ∷ (first_of header + total (take (kept es) es)) ∷ []

    abbrev g1 : List ℕ
    g1 = render (set header 1 next) lower

    abbrev g2 : List ℕ
    g2 = render new_header upper

    abbrev t1 : List ℕ
    t1 = with_segment t s g1

    abbrev t2 : List ℕ
    t2 = with_segment t1 next g2

    abbrev D : List ℕ
    D = set t2 2 next

    area_place : (a.before < length es) × (kind (get_or es a.before []) ≡ Empty)
    area_place = go x.are (omega (arith, x.place))
      where
        go : es ≡ x.before ++ x.here ∷ x.after → a.before ≡ length x.before
            → (a.before < length es) × (kind (get_or es a.before []) ≡ Empty)
        go e i =
            let l = length-append x.before (x.here ∷ x.after) in
            let g = get_or-append_seam x.before x.here x.after [] in
            (omega (arith, ap length e), ap₂ (λ (l : List Entry) (j : ℕ). kind (get_or l j [])) e i ∙ (rw g) ∙ x.empty)

    hv : Halves w h a.cost es lower upper out
    hv = halves w new n (total x.before) a.cost a.before es area_place.0 area_place.1 bd.fine ad

    pa : Parted es h
    pa = parted es bd.fine

    cost2 : a.cost ≤ 2
    cost2 = rw x.cost (cost-small (flag false x.before))

    head_long : length header ≡ 5
    head_long = header-length t s low inside

    old_head : length (set header 1 next) ≡ 5
    old_head = length-set header 1 next ∙ head_long

    wr1 : Written w (set header 1 next) lower g1
    wr1 =
        written w (set header 1 next) lower (omega arith) old_head
        (record {
          fine = hv.fine_lower;
          wide = hv.wide_lower;
          room = omega (arith, hv.long_lower, pa.high, bd.room, cost2, many);
        })

    wr2 : Written w new_header upper g2
    wr2 =
        written w new_header upper (omega arith) refl
        (record {
          fine = hv.fine_upper;
          wide = hv.wide_upper;
          room = omega (arith, hv.long_upper, pa.low, bd.room, cost2, many);
        })

    -- the segments of the directory afterwards
    long1 : length t1 ≡ length t
    long1 = with_length t s g1 low inside (render-length (set header 1 next) lower)

    inside1 : 512 * next ≤ length t1
    inside1 = omega (arith, long1, (rule1-holds v t st.size).whole)

    long2 : length t2 ≡ length t
    long2 = with_length t1 next g2 (omega arith) inside1 (render-length new_header upper) ∙ long1

    at_own : segment t2 s ≡ g1
    at_own =
        with_other t1 next g2 (omega arith) inside1 (render-length new_header upper) s low (λ e. omega (arith, high))
        ∙ with_own t s g1 low inside (render-length (set header 1 next) lower)

    at_next : segment t2 next ≡ g2
    at_next = with_own t1 next g2 (omega arith) inside1 (render-length new_header upper)

    other_segment : (z : ℕ) → 1 ≤ z → z ≤ highest t → z ≢ s → segment t2 z ≡ segment t z
    other_segment z l i ne =
        with_other t1 next g2 (omega arith) inside1 (render-length new_header upper) z l (λ e. omega arith)
        ∙ with_other t s g1 low inside (render-length (set header 1 next) lower) z l ne

    -- a segment of D by the segment of t2
    word : (z j : ℕ) (g : List ℕ) → segment t2 z ≡ g → j < 5 → j ≢ 2 → get_or (segment D z) j 0 ≡ get_or g j 0
    word z j g e l ne = top_head t2 z j next l ne ∙ ap (λ (f : List ℕ). get_or f j 0) e

    slots_at : (z : ℕ) (g : List ℕ) → segment t2 z ≡ g → slots w (segment D z) ≡ slots w g
    slots_at z g e = top-slots w t2 z next ∙ ap (slots w) e

    own_word : (j : ℕ) → j < 5 → j ≢ 2 → j ≢ 1 → get_or (segment D s) j 0 ≡ get_or (segment t s) j 0
    own_word j l ne ne' =
        word s j g1 at_own l ne ∙ wr1.heads j l ∙ get_or-set_other header 1 j next 0 ne' ∙ header_word t s j l

    next_word : (j : ℕ) → j < 5 → j ≢ 2 → get_or (segment D next) j 0 ≡ get_or new_header j 0
    next_word j l ne = word next j g2 at_next l ne ∙ wr2.heads j l

    own_entries : entries_in w D s ≡ lower
    own_entries = ap upto (slots_at s g1 at_own) ∙ wr1.entries

    next_entries : entries_in w D next ≡ upper
    next_entries = ap upto (slots_at next g2 at_next) ∙ wr2.entries

    top : highest D ≡ next
    top = get_or-set_same t2 2 next 0 (omega (arith, long2, inside, low))

    stop : Stop (shape_of t) t s b
    stop = stop-at v t st s low high

    change : Change t D s next (s ∷ next ∷ [])
    change =
        record {
          low = low;
          high = high;
          size = length-set t2 2 next ∙ long2;
          more = omega arith;
          fits = omega arith;
          top = top;
          many = omega arith;
          others = like;
          way = (
            refl,
            record {
              low = low;
              high = omega (arith, high);
              total = own_word 0 (omega arith) (λ e. omega arith) (λ e. omega arith) ∙ stop.total;
              extra = own_word 3 (omega arith) (λ e. omega arith) (λ e. omega arith) ∙ stop.extra;
              first = own_word 4 (omega arith) (λ e. omega arith) (λ e. omega arith);
              readable = rw (slots_at s g1 at_own) wr1.readable;
            },
            (
              own_link,
              record {
                low = omega arith;
                high = omega arith;
                total = next_word 0 (omega arith) (λ e. omega arith);
                extra = next_word 3 (omega arith) (λ e. omega arith);
                first = next_word 4 (omega arith) (λ e. omega arith) ∙ next-first;
                readable = rw (slots_at next g2 at_next) wr2.readable;
              },
              (next_word 1 (omega arith) (λ e. omega arith) ∙ header_word t s 1 (omega arith), blocks_same),
            ),
          );
        }
      where
        like : (z : ℕ) → 1 ≤ z → z ≤ highest t → z ≢ s → Like w t D z
        like z l i ne =
            let e = other_segment z l i ne in
            record {
              total = word z 0 (segment t z) e (omega arith) (λ q. omega arith);
              link = word z 1 (segment t z) e (omega arith) (λ q. omega arith);
              extra = word z 3 (segment t z) e (omega arith) (λ q. omega arith);
              first = word z 4 (segment t z) e (omega arith) (λ q. omega arith);
              slots = slots_at z (segment t z) e;
            }

        own_link : link_of (segment D s) ≡ next
        own_link =
            word s 1 g1 at_own (omega arith) (λ e. omega arith)
            ∙ wr1.heads 1 (omega arith)
            ∙ get_or-set_same header 1 next 0 (omega (arith, head_long))

        next-first : first_of header + total (take h es) ≡ b + total (entries_in w D s)
        next-first = rw (own_entries, hv.sum_lower, header_word t s 4 (omega arith))

        blocks_same : b + total (entries_in w D s) + total (entries_in w D next) ≡ b + total es
        blocks_same =
            let i = total-append lower upper in
            let j = ap total hv.joined in
            let k = ad.sum in
            rw (own_entries, next_entries) (omega arith)

    an : Anew v t D s (s ∷ next ∷ [])
    an = anew v t D s next (s ∷ next ∷ []) st change

    -- the new entry stands in whichever half has its area
    split_stands : StandsAt D (split_at t a).segment (split_at t a).slot a.first new
    unfolding split_at entries
    split_stands = go (ltb a.before h) refl
      where
        go : (z : Bool) → ltb a.before h ≡ z
            → let p = cond z (new_after s a.before a.cost) (new_after next (a.before - h) a.cost) in
            StandsAt D p.segment p.slot a.first new
        go true z =
            let l = ltb-true a.before h z in
            let e = length-take-le h es pa.inside in
            let f : first_of (segment D s) ≡ b = own_word 4 (omega arith) (λ e. omega arith) (λ e. omega arith) in
            new_stands D s (low, rw top (omega (arith, high))) a.before (take h es) (omega arith) (rw (an.extra, own_entries, z))
            (rw (f, take-take a.before h es (omega arith)) area_first)
        go false z =
            let l = ltb-false a.before h z in
            let i = area_within in
            let e = length-drop h es in
            let j : h + (a.before - h) ≡ a.before = omega arith in
            let f : first_of (segment D next) ≡ b + total (take h es) =
            next_word 4 (omega arith) (λ e. omega arith) ∙ ap (λ (m : ℕ). m + total (take h es)) (header_word t s 4 (omega arith)) in
            let m = total-append (take h es) (take (a.before - h) (drop h es)) in
            let o : take h es ++ take (a.before - h) (drop h es) ≡ take a.before es =
            sym (take-add h (a.before - h) es) ∙ ap (λ (m : ℕ). take m es) j in
            let r = ap total o in
            let g = area_first in
            new_stands D next (omega arith, rw top (omega arith)) (a.before - h) (drop h es) (omega arith) (rw (an.extra, next_entries, z))
            (rw f (omega arith))

    split_entered : Entered v t (split t new n a) (live_at a.first new) (split_at t a)
    unfolding split
    split_entered = finish D an.before an.after an.living_was (an.living_is ∙ (rw all_of)) an.sound (split_at t a) split_stands
      where
        all_of : spread w D (s ∷ next ∷ []) ≡ out
        all_of = rw (own_entries, next_entries, append-nil upper) hv.joined

  -- in either case
  pub is_entered : Entered v t (entered t new n a) (live_at a.first new) (entered_at t a)
  unfolding entered entered_at has_room
  is_entered = go (leb (length es + a.cost) (capacity t)) refl
    where
      room : has_room t es a.cost ≡ true
      room =
          rw x.cost
          (both (leb 1 (blocks x.here)) (has_room t es (cost_after (flag false x.before))) (sym x.choice ∙ ch.eligible)).1

      go : (z : Bool) → leb (length es + a.cost) (capacity t) ≡ z
          → Entered v t (cond z (unsplit t new n a) (split t new n a)) (live_at a.first new)
          (cond z (new_after a.seg a.before a.cost) (split_at t a))
      go true e = whole_entered (leb-true (length es + a.cost) (capacity t) e)
      go false e =
          split_entered (ltb-true (highest t) (segments t) (left e))
        where
          left : leb (length es + a.cost) (capacity t) ≡ false → ltb (highest t) (segments t) ≡ true
          left q = rw q at room
