-- The loop over a segment's slots. Words that are written so far, with what the slots ahead become from here on, are what all slots become; and
-- so are the block after the entries and the first blocks dealt out. What is ahead is as it was, so slots are read there.
use Prim.Native.Nat.{ℕ, zero, suc, ◌+◌, ◌*◌, ◌-◌, ◌≤◌, ◌<◌}
use mathlib.Core.Path.{◌≡◌, refl, sym, ap, ◌∙◌}
use mathlib.Core.Bool.{Bool, true, false, ◌||◌}
use mathlib.Core.List.{List, [], ◌∷◌, ◌++◌, append_assoc}
use native.Mathlib.Nat.{zero-mul, add-zero}
use native.Mathlib.Omega.{arith}
use borrow.Rule.Slice.PartMut.{put_mid, same_len_mid}
use lib.ListN.{length, get_or, take, drop, set, length-set, length-append, length-drop, take-append-drop}
use lib.Seq.{drop-drop, drop_at, drop-set-lt, take-add, take-suc-set, length-take-le}
use lib.Dec.{eqb}
use Rattle.bools.proofs.Bools.{neither}
use Rattle.meaning.specs.Kinds.{end_status, kind_of, is_end, is_unknown}
use Rattle.meaning.specs.Words.{Entry, kind, blocks, slot_count, chunks, slots, upto, total}
use Rattle.meaning.specs.Requests.{flat}
use Rattle.walks.proofs.Words.{word0}
use Rattle.walks.proofs.Slots.{mul_less, chunks_step}
use Rattle.walks.proofs.Flat.{flat-split, flat-chunks}
use Rattle.segment.specs.Written.{Written}
use Rattle.segment.proofs.Ahead.{slot_at, first-room}
use Rattle.segment.proofs.Writes.{none_written, both_written, set-written}
use Rattle.repaired.specs.Tool.{marked, no_more, mend, files_among, with_slots}
use Rattle.mending.specs.declared.LaidTo.{LaidTo}
use Rattle.mending.specs.Mending.{laid_entry, dealt, SlotLaid, mended_slots, MendedSegment}
use Rattle.mending.proofs.Stops.{stops, last-slot, marked-end, mend-stop, mend-on, laid-entry, laid-dealt}

-- what slots es come to after words that are written, with the words z after the slots
record Outcome : Type 0 where
  pub words : List ℕ
  pub block : ℕ
  pub left : List ℕ

abbrev outcome : List ℕ → LaidTo → List Entry → List ℕ → Outcome
outcome done x es z =
    record { words = done ++ flat es z; block = x.block + total (upto es); left = drop (files_among (upto es)) x.firsts.now }

outcome-entry : (done : List ℕ) (x r : LaidTo) (e : Entry) (es : List Entry) (z : List ℕ) → is_end (kind e) ≡ false
    → r.block ≡ x.block + blocks e → r.firsts.now ≡ drop (dealt e) x.firsts.now → outcome done x (e ∷ es) z ≡ outcome (done ++ e) r es z
unfolding flat upto total files_among
outcome-entry done x r e es z h b f =
    let p : x.block + (blocks e + total (upto es)) ≡ r.block + total (upto es) = omega arith in
    let q : drop (dealt e + files_among (upto es)) x.firsts.now ≡ drop (files_among (upto es)) r.firsts.now =
    sym (drop-drop (files_among (upto es)) (dealt e) x.firsts.now) ∙ ap (drop (files_among (upto es))) (sym f) in
    rw (h, p, q, append_assoc done e (flat es z)) refl

-- slots with the words after them are the words that they were taken from
flat-slots : (n w : ℕ) (l : List ℕ) → flat (chunks n w l) (drop (n * w) l) ≡ l
flat-slots n w l = flat-split (chunks n w l) (drop (n * w) l) ∙ rw (flat-chunks n w l) (take-append-drop (n * w) l)

-- what is ahead of words that are written is as it was
ahead-kept : (b l a : List ℕ) (q z : ℕ) → q ≤ length b → Written b q l a z → drop z a ≡ drop z b
ahead-kept b l a q z h u =
    let e = length-append (take q b) l in
    rw (← u.next) at (ap (drop (q + length l)) u.words
    ∙ drop_at (take q b ++ l) (drop (q + length l) b) (q + length l) (omega (arith, length-take-le q b h)))

-- the segment g₁, whose start is set, has become g; so many slots are left, from word p on
pub record Passing (v w : ℕ) (x₀ : LaidTo) (g₁ : List ℕ) (left p : ℕ) (x : LaidTo) (g : List ℕ) : Type 0 where
  pub room : p + left * w ≡ 5 + slot_count w * w
  pub high : x.block + left * 65535 ≤ 65535 + slot_count w * 65535
  pub done : List ℕ
  pub written : Written g₁ 5 done g p
  pub same : outcome done x (mend v x.block x.firsts.now (chunks left w (drop p g₁))) (drop (5 + slot_count w * w) g₁)
      ≡ outcome [] x₀ (mended_slots v w x₀ g₁) (drop (5 + slot_count w * w) g₁)

pub passing : (v w : ℕ) (x : LaidTo) (g₁ : List ℕ) → x.block ≤ 65535 → Passing v w x g₁ (slot_count w) 5 x g₁
unfolding slots
passing v w x g₁ h =
    record { room = refl; high = omega arith; done = []; written = none_written g₁ 5; same = refl }

module _ (v w : ℕ) (x₀ : LaidTo) (g₀ : List ℕ) (wide : 7 ≤ w) (whole : length g₀ ≡ 512) where
  abbrev g₁ : List ℕ
  g₁ = set g₀ 4 x₀.block

  abbrev rest : List ℕ
  rest = drop (5 + slot_count w * w) g₁

  abbrev all : List Entry
  all = mended_slots v w x₀ g₁

  long : length g₁ ≡ 512
  long = length-set g₀ 4 x₀.block ∙ whole

  -- the slots and the words after them are those of the segment as it was
  mended-all : (after : List ℕ) (x : LaidTo) → after ≡ take 5 g₁ ++ flat all rest → x.block ≡ x₀.block + total (upto all)
      → x.firsts.now ≡ drop (files_among (upto all)) x₀.firsts.now → MendedSegment v w x₀ g₀ after x
  unfolding with_slots slots
  mended-all after x a b f =
      let s : drop 5 g₁ ≡ drop 5 g₀ = drop-set-lt 5 g₀ 4 x₀.block (omega arith) in
      let z : rest ≡ drop (5 + slot_count w * w) g₀ = drop-set-lt (5 + slot_count w * w) g₀ 4 x₀.block (omega arith) in
      let t : take 5 g₁ ≡ take 4 g₀ ++ (x₀.block ∷ []) = take-suc-set g₀ 4 x₀.block (omega arith) in
      record {
        words = a ∙ rw (t, s, z) (append_assoc (take 4 g₀) (x₀.block ∷ []) _);
        block = rw (← s) b;
        firsts = rw (← s) f;
      }

  module _ {left p : ℕ} {x : LaidTo} {g : List ℕ} (i : Passing v w x₀ g₁ left p x g) where
    -- no entry is ahead any more
    over : (after : List ℕ) (es : List Entry) → upto es ≡ []
        → mend v x.block x.firsts.now (chunks left w (drop p g₁)) ≡ es
        → after ≡ take 5 g₁ ++ (i.done ++ flat es rest) → MendedSegment v w x₀ g₀ after x
    unfolding total files_among
    over after es u e a =
        let s : outcome i.done x es rest ≡ outcome [] x₀ all rest = rw e at i.same in
        let b : x.block + total (upto es) ≡ x₀.block + total (upto all) = ap (λ (o : Outcome). o.block) s in
        let f : drop (files_among (upto es)) x.firsts.now ≡ drop (files_among (upto all)) x₀.firsts.now = ap (λ (o : Outcome). o.left) s in
        let b₀ : total (upto es) ≡ 0 = rw u refl in
        let n₀ : files_among (upto es) ≡ 0 = rw u refl in
        mended-all after x (a ∙ ap (λ (o : Outcome). take 5 g₁ ++ o.words) s) (omega arith) (rw n₀ at f)

    pub pass_over : left ≤ 0 → MendedSegment v w x₀ g₀ g x
    unfolding mend chunks upto flat
    pass_over h =
        let k : left * w ≡ 0 = (let l : left ≡ 0 = omega arith in rw l (zero-mul w)) in
        let q : 5 + slot_count w * w ≡ 5 + length i.done = omega (arith, i.room, i.written.next) in
        over g [] refl (rw (no-slots left h) refl) (i.written.words ∙ rw q (append_assoc (take 5 g₁) i.done (drop (5 + length i.done) g₁)))
      where
        no-slots : (n : ℕ) → n ≤ 0 → mend v x.block x.firsts.now (chunks n w (drop p g₁)) ≡ []
        no-slots zero l = refl
        no-slots (suc n) l = absurd (omega arith)

    pub pass_long : length g ≡ 512
    pass_long = i.written.long ∙ long

    pub pass_room : 0 < left → p + w ≤ 512
    pass_room h = omega (arith, mul_less left w h, i.room, first-room w)

    module _ (h : 0 < left) where
      abbrev e : Entry
      e = slot_at g w p

      abbrev es : List Entry
      es = chunks (left - 1) w (drop (p + w) g₁)

      here : drop p g ≡ drop p g₁
      here = ahead-kept g₁ i.done g 5 p (omega (arith, long)) i.written

      ahead : chunks left w (drop p g₁) ≡ e ∷ es
      ahead = chunks_step left w (drop p g₁) h ∙ rw (here, drop-drop w p g₁) refl

      entry_long : length e ≡ w
      entry_long = length-take-le w (drop p g) (omega (arith, length-drop p g, pass_long, pass_room h))

      stops_is : is_end (kind_of (get_or g p 0)) || (is_unknown (kind_of (get_or g p 0)) || eqb left 1) ≡ stops e es
      stops_is = sym (rw (word0 g p w (omega arith), last-slot left w (drop (p + w) g₁) h) refl)

      -- a write of the slot, after those so far
      next-written : (after : List ℕ) (y : Entry) → Written g p y after (p + w) → Written g₁ 5 (i.done ++ y) after (p + w)
      next-written after y u = both_written g₁ i.done g y after 5 p (p + w) (omega (arith, long)) i.written u

      -- the slot written anew
      slot_written : (after : List ℕ) → length after ≡ w → Written g p after (put_mid p w g after) (p + w)
      slot_written after k =
          record {
            words = rw (k, drop-drop w p g) (sym (append_assoc (take p g) after (drop (p + w) g)));
            next = rw k refl;
            long = same_len_mid p w g after (k ∙ sym entry_long);
          }

      status_written : (n : ℕ) → Written g p (set e 0 n) (set g p n) (p + w)
      status_written n =
          let stands : Written g p e g (p + w) = record {
            words = sym (rw (entry_long, ← take-add p w g) (take-append-drop (p + w) g));
            next = rw entry_long refl;
            long = refl;
          } in
          rw add-zero at (set-written g e g p (p + w) 0 n (omega (arith, pass_long, pass_room h)) (omega (arith, entry_long)) stands)

      pub pass_stop : (last : Bool) → last ≡ eqb left 1
          → is_end (kind_of (get_or g p 0)) || (is_unknown (kind_of (get_or g p 0)) || last) ≡ true
          → MendedSegment v w x₀ g₀ (set g p end_status) x
      unfolding upto flat
      pass_stop last l t' =
          let t = rw l at t' in
          let u = next-written (set g p end_status) (marked e)
          (status_written end_status) in
          let z : drop ((left - 1) * w) (drop (p + w) g₁) ≡ rest =
          (let k : p + w + (left - 1) * w ≡ 5 + slot_count w * w = omega (arith, mul_less left w h, i.room) in
          drop-drop ((left - 1) * w) (p + w) g₁ ∙ ap (λ (j : ℕ). drop j g₁) k) in
          let f : flat es rest ≡ drop (p + w) g₁ = rw z at (flat-slots (left - 1) w (drop (p + w) g₁)) in
          over (set g p end_status) (marked e ∷ es) (rw (marked-end e (omega (arith, entry_long))) refl)
          (rw ahead (mend-stop v x.block x.firsts.now e es (sym stops_is ∙ t)))
          (u.words ∙ rw (f, ← u.next, ← append_assoc i.done (marked e) (drop (p + w) g₁))
          (append_assoc (take 5 g₁) (i.done ++ marked e) (drop (p + w) g₁)))

      pub pass_on : (last : Bool) → last ≡ eqb left 1
          → is_end (kind_of (get_or g p 0)) || (is_unknown (kind_of (get_or g p 0)) || last) ≡ false
          → (n : ℕ) → n ≡ w → (after : List ℕ) (r : LaidTo) → SlotLaid v x (take n (drop p g)) after r → length after ≡ length (take n (drop p g))
          → Passing v w x₀ g₁ (left - 1) (p + w) r (put_mid p n g after)
      pass_on last lst t' n k after r u' long' =
          let t = rw lst at t' in
          let st : stops e es ≡ false = sym stops_is ∙ t in
          let z = neither (is_end (kind e)) (is_unknown (kind e) || no_more es) st in
          let fs : List ℕ = x.firsts.now in
          let y : Entry = laid_entry v x.block fs e in
          let l : 7 ≤ length e = omega (arith, entry_long) in
          let u : SlotLaid v x e after r = rw k at u' in
          let whole : length after ≡ w = (rw k at long') ∙ entry_long in
          let s : mend v x.block fs (chunks left w (drop p g₁)) ≡ y ∷ mend v r.block r.firsts.now es =
          rw (ahead, u.block, u.firsts) (mend-on v x.block fs e es l st) in
          record {
            room = omega (arith, mul_less left w h, i.room);
            high = omega (arith, i.high, u.high);
            done = i.done ++ y;
            written = next-written (put_mid p n g after) y (rw (k, ← u.words) (slot_written after whole));
            same =
                sym (outcome-entry i.done x r y (mend v r.block r.firsts.now es) rest (laid-entry v x.block fs e l z.0) u.block
                (u.firsts ∙ ap (λ (j : ℕ). drop j fs) (sym (laid-dealt v x.block fs e l))))
                ∙ (rw s at i.same);
          }
