-- A step of the cursor as code takes it. The slot of a cursor lies in its segment, word for word; an entry that stands there is the
-- first of the rows from there on, and where none does the rows are those of the segment that the link names, or none.
-- Assumes nothing.
use Prim.Native.Nat.{ℕ, zero, suc, ◌+◌, ◌*◌, ◌-◌, ◌≤◌, ◌<◌}
use mathlib.Core.Path.{◌≡◌, refl, sym, ap, ◌∙◌}
use mathlib.Core.Bool.{Bool, true, false, cond, ◌&&◌, not, true≢false}
use mathlib.Core.List.{List, [], ◌∷◌}
use native.Mathlib.Nat.{mul-le-mul_right, div-mul-le_self}
use native.Mathlib.Omega.{arith}
use lib.ListN.{length, get_or, take, drop}
use lib.Seq.{drop-drop, drop-cons, drop-length}
use lib.Dec.{leb}
use borrow.Author.Tests.{leb-true, leb-false, le-leb, not-true}
use Rattle.bools.proofs.Bools.{both}
use Rattle.meaning.specs.Kinds.{kind_of, is_end}
use Rattle.meaning.specs.Words.{Row, segments, segment, slot_words, slot_count, kind, slots, upto, rows_in}
use Rattle.walks.proofs.Words.{word0, base, header}
use Rattle.walks.proofs.Slots.{mul_less, length-slots, at-chunks}
use Rattle.cursor.specs.Cursor.{is_segment, inside, AtEntry, slot_place, slot_in, is_entry, row_in, on_entry, row_here, first_slot}
use Rattle.cursor.specs.Cursor.{entries_here, rows_here, rows_from, rows_at, past, seen_past, entry_step, first_step, step_at}
use Rattle.cursor.specs.declared.Seen.{Seen}
use Rattle.cursor.specs.declared.Cursor.{Cursor}
use Rattle.chain.proofs.Links.{part-is, link_at, one-less}
use Rattle.std.specs.Prelude.{None}

pub segment-is : (d : List ℕ) (s : ℕ) → is_segment d s ≡ true → (1 ≤ s) × (512 * s ≤ length d)
unfolding is_segment
segment-is d s e =
    let p = both (leb 1 s) (leb s (segments d)) e in
    let h = leb-true s (segments d) p.1 in
    (leb-true 1 s p.0, omega arith)

pub is-segment : (d : List ℕ) (s : ℕ) → 1 ≤ s → 512 * s ≤ length d → is_segment d s ≡ true
unfolding is_segment
is-segment d s l h = rw (le-leb 1 s l, le-leb s (segments d) (omega arith))

pub standing : (d : List ℕ) (c : Cursor) → inside d c ≡ true → AtEntry d c
unfolding inside
standing d c e =
    let a = is_segment d c.seg in
    let b = leb 1 c.slot in
    let m = leb c.slot (slot_count (slot_words d) + 1) in
    let p = both (a && b && m) (leb c.first 65535) e in
    let q = both (a && b) m p.0 in
    let r = both a b q.0 in
    let s = segment-is d c.seg r.0 in
    record {
      low = s.0;
      high = s.1;
      some = leb-true 1 c.slot r.1;
      most = leb-true c.slot (slot_count (slot_words d) + 1) q.1;
      small = leb-true c.first 65535 p.1;
    }

pub stands : (d : List ℕ) (c : Cursor) → AtEntry d c → inside d c ≡ true
unfolding inside
stands d c s =
    rw (
      is-segment d c.seg s.low s.high,
      le-leb 1 c.slot s.some,
      le-leb c.slot (slot_count (slot_words d) + 1) s.most,
      le-leb c.first 65535 s.small,
    )

-- slot k ends within the 507 words
pub slot-fits : (w k : ℕ) → 1 ≤ k → k ≤ slot_count w → (k - 1) * w + w ≤ 507
slot-fits w k l h = omega (arith, mul_less k w l, mul-le-mul_right w h, div-mul-le_self 507 w)

-- slot k of the segment g
pub slot_is : (w : ℕ) (g : List ℕ) (k : ℕ) → 1 ≤ k → k ≤ slot_count w → slot_in w g k ≡ take w (drop (slot_place w k) g)
unfolding slots
slot_is w g k l h = at-chunks (slot_count w) (k - 1) w (drop 5 g) (omega arith) ∙ ap (take w) (drop-drop ((k - 1) * w) 5 g)

-- whether an entry stands there, by its status word
pub stands_by : (w : ℕ) (g : List ℕ) (k : ℕ) (marker : Bool) → 7 ≤ w → 1 ≤ k → k ≤ slot_count w
    → marker ≡ is_end (kind_of (get_or g (slot_place w k) 0))
    → not marker ≡ is_entry w g k
unfolding is_entry
stands_by w g k marker wide l h e =
    rw (le-leb k (slot_count w) h, slot_is w g k l h, word0 g (slot_place w k) w (omega arith), e)

-- the words that code cuts out are those of the slot
pub slot_cut : (w : ℕ) (g : List ℕ) (k p : ℕ) → 1 ≤ k → k ≤ slot_count w → p ≡ slot_place w k
    → take (p + w - p) (drop p g) ≡ slot_in w g k
slot_cut w g k p l h e =
    let m : slot_place w k + w - slot_place w k ≡ w = omega arith in
    rw (e, m, slot_is w g k l h)

module _ (d : List ℕ) (c : Cursor) (s : AtEntry d c) where
  -- past the last slot there are no entries
  past-last : slot_count (slot_words d) < c.slot → entries_here d c ≡ []
  unfolding entries_here upto
  past-last h =
      let l = slots (slot_words d) (segment d c.seg) in
      let e : c.slot - 1 ≡ length l = rw (length-slots (slot_words d) (segment d c.seg)) (omega arith) in
      rw (e, drop-length l)

  -- the entries from a slot on, by whether the marker stands there
  by_marker : c.slot ≤ slot_count (slot_words d)
      → entries_here d c ≡ cond (is_end (kind (row_here d c).entry)) [] ((row_here d c).entry ∷ entries_here d (past (row_here d c)))
  unfolding entries_here upto row_in
  by_marker m =
      let k = c.slot - 1 in
      let l = slots (slot_words d) (segment d c.seg) in
      let e = get_or l k [] in
      let long : k < length l = rw (length-slots (slot_words d) (segment d c.seg)) (omega arith) in
      let a : suc k ≡ c.slot + 1 - 1 = omega arith in
      let x : drop k l ≡ e ∷ drop (c.slot + 1 - 1) l = drop-cons l k [] long ∙ ap (λ (z : ℕ). e ∷ drop z l) a in
      rw x

  -- no entry stands there
  pub ahead_none : on_entry d c ≡ false → entries_here d c ≡ []
  unfolding is_entry row_in
  ahead_none e = go (leb c.slot (slot_count (slot_words d))) (is_end (kind (row_here d c).entry)) refl refl e
    where
      go : (t u : Bool) → leb c.slot (slot_count (slot_words d)) ≡ t → is_end (kind (row_here d c).entry) ≡ u → t && not u ≡ false
          → entries_here d c ≡ []
      go true true m n h = by_marker (leb-true c.slot (slot_count (slot_words d)) m) ∙ rw n
      go true false m n h = absurd (true≢false h)
      go false u m n h = past-last (leb-false c.slot (slot_count (slot_words d)) m)

  pub here-none : on_entry d c ≡ false → rows_here d c ≡ []
  unfolding rows_here rows_in
  here-none e = rw (ahead_none e)

  -- one does
  pub ahead-some : on_entry d c ≡ true → entries_here d c ≡ (row_here d c).entry ∷ entries_here d (past (row_here d c))
  unfolding is_entry row_in
  ahead-some e =
      let m = leb c.slot (slot_count (slot_words d)) in
      let n = is_end (kind (row_here d c).entry) in
      let p = both m (not n) e in
      let q = not-true n p.1 in
      by_marker (leb-true c.slot (slot_count (slot_words d)) p.0) ∙ rw q

  place-past : (row_here d (past (row_here d c))).at ≡ (row_here d c).at + slot_words d
  unfolding row_in
  place-past =
      let w = slot_words d in
      let f : c.slot + 1 - 1 ≡ c.slot = omega arith in
      rw f (omega (arith, mul_less c.slot w s.some))

  pub here-some : on_entry d c ≡ true → rows_here d c ≡ row_here d c ∷ rows_here d (past (row_here d c))
  unfolding rows_here rows_in row_in
  here-some e = rw (ahead-some e, place-past)

  pub entry-slot : on_entry d c ≡ true → c.slot ≤ slot_count (slot_words d)
  unfolding is_entry row_in
  entry-slot e =
      let m = leb c.slot (slot_count (slot_words d)) in
      leb-true c.slot (slot_count (slot_words d)) (both m (not (is_end (kind (row_here d c).entry))) e).0

  -- a turn of a step, with n segments to ask. An entry ends it
  from-entry : (n : ℕ) → 0 < n → on_entry d c ≡ true → first_step (rows_from n d c) ≡ entry_step (row_here d c)
  unfolding rows_from
  from-entry zero h e = absurd (omega arith)
  from-entry (suc n) h e = rw (here-some e)

  -- else the link is followed to a segment
  from-link : (n : ℕ) → 0 < n → on_entry d c ≡ false → is_segment d (link_at d c.seg) ≡ true
      → rows_from n d c ≡ rows_from (n - 1) d (first_slot d (link_at d c.seg))
  unfolding rows_from
  from-link zero h e g = absurd (omega arith)
  from-link (suc n) h e g =
      let m : suc n - 1 ≡ n = omega arith in
      rw (m, here-none e, header d c.seg 1 (omega arith), g)

  -- or there is no more
  from_last : (n : ℕ) → 0 < n → on_entry d c ≡ false → is_segment d (link_at d c.seg) ≡ false → rows_from n d c ≡ []
  unfolding rows_from
  from_last zero h e g = absurd (omega arith)
  from_last (suc n) h e g = rw (here-none e, header d c.seg 1 (omega arith), g)

-- what is read in the part of the slice that is the cursor's segment
module _ (d : List ℕ) (c : Cursor) (w : ℕ) (e : w ≡ slot_words d) where
  abbrev part : List ℕ
  part = take (base c.seg + 512 - base c.seg) (drop (base c.seg) d)

  pub entry-part : {t : Bool} → t ≡ is_entry w part c.slot → t ≡ on_entry d c
  entry-part h = rw (e, part-is d c.seg) at h

  pub row-part : {r : Seen × Cursor} → r ≡ seen_past (row_in w part (base c.seg) c) → r ≡ seen_past (row_here d c)
  row-part h = rw (e, part-is d c.seg) at h

-- the walk's invariant: k of the 31 segments have been asked, and the rows from here on are those of the others
pub record Stepping (d : List ℕ) (cursor : Cursor) (k : ℕ) (here : Cursor) : Type 0 where
  pub asked : inside d cursor ≡ true
  pub stands : AtEntry d here
  pub same : rows_from (31 - k) d here ≡ rows_at d cursor

pub steps : (d : List ℕ) (c : Cursor) → inside d c ≡ true → Stepping d c 0 c
unfolding rows_at
steps d c e = record { asked = e; stands = standing d c e; same = refl }

module _ {d : List ℕ} {cursor : Cursor} {k : ℕ} {here : Cursor} (w : Stepping d cursor k here) where
  -- what the walk answers where the rows are known
  answers : (rs : List Row) → rows_from (31 - k) d here ≡ rs → first_step rs ≡ step_at d cursor
  unfolding step_at
  answers rs e = rw (w.asked, ← w.same, e)

  pub at_none : 31 ≤ k → None ≡ step_at d cursor
  unfolding rows_from
  at_none h =
      let z : 31 - k ≡ 0 = omega arith in
      answers [] (rw z)

  module _ (h : k < 31) where
    pub at_entry : on_entry d here ≡ true → entry_step (row_here d here) ≡ step_at d cursor
    at_entry e = sym (from-entry d here w.stands (31 - k) (omega arith) e) ∙ answers (rows_from (31 - k) d here) refl

    pub at_last : on_entry d here ≡ false → is_segment d (link_at d here.seg) ≡ false → None ≡ step_at d cursor
    at_last e g = answers [] (from_last d here w.stands (31 - k) (omega arith) e g)

    -- the link is followed
    pub at-link : (to : Cursor) → on_entry d here ≡ false → is_segment d (link_at d here.seg) ≡ true
        → (to ≡ first_slot d (link_at d here.seg)) × AtEntry d to
        → Stepping d cursor (k + 1) to
    at-link to e g t = record {
      asked = w.asked;
      stands = t.1;
      same = rw (one-less 31 k, t.0) (sym (from-link d here w.stands (31 - k) (omega arith) e g) ∙ w.same);
    }

-- a cursor that stands at no slot is at the end
pub at-no-slot : (d : List ℕ) (c : Cursor) → inside d c ≡ false → None ≡ step_at d c
unfolding step_at
at-no-slot d c e = rw e
