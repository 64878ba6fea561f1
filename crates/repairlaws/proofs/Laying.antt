-- One segment's slots, mended by the tool beside a reachable and readable version of them. The tool's block is never below the other's, and
-- never above the first block of the next file there: so at a file both are the same, and an empty entry takes what is left to that block. All
-- files get the blocks of the other version, and the tool's slots are readable too.
use Prim.Native.Nat.{ℕ, ◌+◌, ◌-◌, ◌≤◌, min}
use mathlib.Core.Path.{◌≡◌, refl, sym, ◌∙◌}
use mathlib.Core.Logic.{◌⊎◌, inl, inr}
use mathlib.Core.Bool.{Bool, true, false, cond, ◌||◌, true≢false, or-true}
use mathlib.Core.List.{List, [], ◌∷◌, ◌++◌}
use native.Mathlib.Omega.{arith}
use native.Mathlib.Nat.{add-zero, zero-add}
use lib.ListN.{length, drop, set, length-set}
use lib.Seq.{get_or-set_same, get_or-set_other, drop-drop}
use Rattle.bools.proofs.Bools.{neither}
use Rattle.meaning.specs.declared.Kind.TheVariants.{Tentative, Empty, Permanent, End, Unknown}
use Rattle.meaning.specs.Kinds.{empty_status, end_status, kind_of, is_tentative, is_permanent, is_end, is_unknown}
use Rattle.meaning.specs.Words.{Entry, kind, blocks, upto, total}
use Rattle.walks.specs.Scan.{long_named, scan_bad}
use Rattle.meaning.specs.declared.Key.{Key}
use Rattle.rules.specs.Sound.{IsEntry}
use Rattle.meaning.specs.Keys.{holds}
use Rattle.rules.proofs.Keys.{empty_holds, count}
use Rattle.walks.proofs.Flat.{Wide}
use Rattle.rules.proofs.Touch.{by_rest}
use Rattle.repaired.specs.Kept.{kept_at, kept_from}
use Rattle.repaired.specs.Tool.{marked, emptied, firsts_of, next_first, no_more, mend, files_among}
use Rattle.repairlaws.specs.Reachable.{Mended, none, stop, mark, last, stay, turn}
use Rattle.repairlaws.proofs.Sorted.{Rising, lower}

-- the first blocks of the files among entries, the first of which begins at block b
abbrev pub firsts : ℕ → List Entry → List ℕ
firsts b es = firsts_of (kept_from b es)

-- an entry that is a file, or is none
files-file : (b : ℕ) (e : Entry) (es : List Entry) → kind e ≡ Permanent → kept_from b (e ∷ es) ≡ kept_at b e ∷ kept_from (b + blocks e) es
unfolding kept_from
files-file b e es h = rw h

files_other : (b : ℕ) (e : Entry) (es : List Entry) → is_permanent (kind e) ≡ false → kept_from b (e ∷ es) ≡ kept_from (b + blocks e) es
unfolding kept_from
files_other b e es h = rw h

-- they rise from b, and the next of them, or the end, is not below b
pub firsts_rise : (es : List Entry) (b : ℕ) → Rising b (firsts b es)
unfolding kept_from firsts_of
firsts_rise [] b = tt
firsts_rise (e ∷ es) b = go (is_permanent (kind e)) (firsts_rise es (b + blocks e))
  where
    go : (x : Bool) → Rising (b + blocks e) (firsts (b + blocks e) es)
        → Rising b (firsts_of (cond x (kept_at b e ∷ kept_from (b + blocks e) es) (kept_from (b + blocks e) es)))
    go true r = (omega arith, lower b (b + blocks e) (firsts (b + blocks e) es) (omega arith) r)
    go false r = lower b (b + blocks e) (firsts (b + blocks e) es) (omega arith) r

next_above : (v b : ℕ) (fs : List ℕ) → b ≤ v → Rising b fs → b ≤ next_first v fs
next_above v b [] l r = l
next_above v b (f ∷ fs) l r = let g = r.0 in omega arith

pub next-within : (v : ℕ) (fs : List ℕ) → next_first v fs ≤ v
next-within v [] = omega arith
next-within v (f ∷ fs) = omega arith

-- where the entries that are left end at V
pub next-first : (v b : ℕ) (es : List Entry) → b + total es ≡ v → b ≤ next_first v (firsts b es)
next-first v b es e = next_above v b (firsts b es) (omega arith) (firsts_rise es b)

-- the kinds and lengths that the tool writes
module _ (w : ℕ) (wide : 7 ≤ w) (e : Entry) (l : length e ≡ w) where
  pub marked-end : kind (marked e) ≡ End
  unfolding kind_of
  marked-end = rw (get_or-set_same e 0 end_status 0 (omega arith))

  pub emptied-empty : (n : ℕ) → kind (emptied n e) ≡ Empty
  unfolding kind_of
  emptied-empty n = rw (get_or-set_other (set e 0 empty_status) 4 0 n 0 (omega arith), get_or-set_same e 0 empty_status 0 (omega arith))

  pub emptied-blocks : (n : ℕ) → blocks (emptied n e) ≡ n
  emptied-blocks n = get_or-set_same (set e 0 empty_status) 4 n 0 (let s = length-set e 0 empty_status in omega arith)

-- The entries xs, from block b, beside ys, from block a, with the first blocks fs of the files of ys and of what is left after them
pub record Laid (v b a : ℕ) (fs : List ℕ) (rest xs ys : List Entry) : Type 0 where
  pub files : kept_from b xs ≡ kept_from a ys
  pub low : a + total ys ≤ b + total xs
  pub high : b + total xs ≤ next_first v (firsts (a + total ys) rest)
  pub left : drop (files_among xs) fs ≡ firsts (a + total ys) rest
  pub keys : (k : Key) → count (holds k) xs ≤ count (holds k) ys

laid_none : (v b a : ℕ) (fs : List ℕ) (rest : List Entry) → fs ≡ firsts a rest → a ≤ b → b ≤ next_first v fs → Laid v b a fs rest [] []
unfolding kept_from total files_among count
laid_none v b a fs rest e l h =
    let z : a + 0 ≡ a = add-zero a in
    record { files = refl; low = omega arith; high = rw (z, ← e, add-zero b) h; left = rw z e; keys = λ k. omega arith }

-- a file: both are at its block
laid-file : (v b a : ℕ) (fs : List ℕ) (rest : List Entry) (e : Entry) (xs ys : List Entry) → kind e ≡ Permanent → b ≡ a
    → Laid v (b + blocks e) (a + blocks e) (drop 1 fs) rest xs ys → Laid v b a fs rest (e ∷ xs) (e ∷ ys)
unfolding total files_among count
laid-file v b a fs rest e xs ys k q i =
    let z : a + (blocks e + total ys) ≡ a + blocks e + total ys = omega arith in
    let y : b + (blocks e + total xs) ≡ b + blocks e + total xs = omega arith in
    record {
      files = rw (files-file b e xs k, files-file a e ys k, i.files, q);
      low = omega (arith, i.low);
      high = rw (z, y) i.high;
      left = rw (k, z) (sym (drop-drop (files_among xs) 1 fs) ∙ i.left);
      keys = λ j. omega (arith, i.keys j);
    }

-- an empty entry beside one that is no file
laid-gap : (v b a : ℕ) (fs : List ℕ) (rest : List Entry) (e f : Entry) (xs ys : List Entry) → kind e ≡ Empty → is_permanent (kind f) ≡ false
    → Laid v (b + blocks e) (a + blocks f) fs rest xs ys → Laid v b a fs rest (e ∷ xs) (f ∷ ys)
unfolding total files_among count
laid-gap v b a fs rest e f xs ys k h i =
    let z : a + (blocks f + total ys) ≡ a + blocks f + total ys = omega arith in
    let y : b + (blocks e + total xs) ≡ b + blocks e + total xs = omega arith in
    record {
      files = files_other b e xs (rw k) ∙ i.files ∙ sym (files_other a f ys h);
      low = omega (arith, i.low);
      high = rw (z, y) i.high;
      left = rw (k, z, zero-add (files_among xs)) i.left;
      keys = λ j. rw (empty_holds j e k) (omega (arith, i.keys j));
    }

upto-on : (e : Entry) (es : List Entry) → is_end (kind e) ≡ false → upto (e ∷ es) ≡ e ∷ upto es
unfolding upto
upto-on e es h = rw h

upto-end : (e : Entry) (es : List Entry) → kind e ≡ End → upto (e ∷ es) ≡ []
unfolding upto
upto-end e es h = rw h

-- an entry that is no file: the tool makes it empty
abbrev NoFile : Entry → Type 0
NoFile e = (kind e ≡ Tentative) ⊎ (kind e ≡ Empty)

-- the tool at a slot
module _ (v b : ℕ) (fs : List ℕ) (e : Entry) (es : List Entry) where
  pub mend-end : kind e ≡ End → mend v b fs (e ∷ es) ≡ e ∷ es
  unfolding mend
  mend-end k = rw k

  pub mend-mark : is_end (kind e) ≡ false → is_unknown (kind e) || no_more es ≡ true → mend v b fs (e ∷ es) ≡ marked e ∷ es
  unfolding mend
  mend-mark k h = rw (k, h)

  pub mend-file : kind e ≡ Permanent → no_more es ≡ false → mend v b fs (e ∷ es) ≡ e ∷ mend v (b + blocks e) (drop 1 fs) es
  unfolding mend
  mend-file k h = rw (k, h)

  pub mend-gap : NoFile e → no_more es ≡ false
      → mend v b fs (e ∷ es) ≡ emptied (next_first v fs - b) e ∷ mend v (b + (next_first v fs - b)) fs es
  unfolding mend
  mend-gap (inl k) h = rw (k, h)
  mend-gap (inr k) h = rw (k, h)

-- slots after an entry of readable ones are readable, and there are some
after : (p : Bool) (e : Entry) (es : List Entry) → scan_bad p (e ∷ es) ≡ false → is_end (kind e) ≡ false → scan_bad (is_tentative (kind e)) es ≡ false
unfolding scan_bad
after p e es h k = by_rest (kind e) p (long_named e) (scan_bad (is_tentative (kind e)) es) k h

some : {es ws : List Entry} → Mended es ws → (p : Bool) → scan_bad p ws ≡ false → no_more es ≡ false
unfolding scan_bad
some none p h = absurd (true≢false h)
some (stop k) p h = refl
some (mark k) p h = refl
some (last k) p h = refl
some (stay k m) p h = refl
some (turn n k m) p h = refl

-- the tool's slots beside the others
pub record Mends (v b a : ℕ) (fs : List ℕ) (rest ms ws : List Entry) : Type 0 where
  pub readable : scan_bad false ms ≡ false
  pub laid : Laid v b a fs rest (upto ms) (upto ws)

module _ (v b a : ℕ) (fs : List ℕ) (rest : List Entry) (low : a ≤ b) (high : b ≤ next_first v fs) where
  -- both at a marker
  mends_end : (e f : Entry) (es ws : List Entry) → fs ≡ firsts a (upto (f ∷ ws) ++ rest) → kind e ≡ End → kind f ≡ End
      → Mends v b a fs rest (e ∷ es) (f ∷ ws)
  unfolding scan_bad
  mends_end e f es ws q k h =
      record {
        readable = rw k;
        laid = rw (upto-end e es k, upto-end f ws h) (laid_none v b a fs rest (q ∙ (rw (upto-end f ws h))) low high);
      }

  -- both at a file
  mends_file : (e : Entry) (es ws : List Entry) → kind e ≡ Permanent → long_named e ≡ false
      → fs ≡ firsts a (upto (e ∷ ws) ++ rest) → a + total (upto (e ∷ ws) ++ rest) ≡ v
      → (a + blocks e ≤ b + blocks e → drop 1 fs ≡ firsts (a + blocks e) (upto ws ++ rest) → a + blocks e + total (upto ws ++ rest) ≡ v
      → b + blocks e ≤ next_first v (drop 1 fs) → Mends v (b + blocks e) (a + blocks e) (drop 1 fs) rest es ws)
      → Mends v b a fs rest (e ∷ es) (e ∷ ws)
  unfolding scan_bad total firsts_of
  mends_file e es ws k n q t f =
      let u : upto (e ∷ ws) ≡ e ∷ upto ws = upto-on e ws (rw k) in
      let r : fs ≡ a ∷ firsts (a + blocks e) (upto ws ++ rest) = q ∙ (rw (u, files-file a e (upto ws ++ rest) k)) in
      let t' : a + (blocks e + total (upto ws ++ rest)) ≡ v = rw u at t in
      let z : next_first v fs ≡ min v a = rw r in
      let y : b ≡ a = omega arith in
      let r' : drop 1 fs ≡ firsts (a + blocks e) (upto ws ++ rest) = rw r in
      let i = f (omega arith) r' (omega arith)
      (let j = next-first v (a + blocks e) (upto ws ++ rest) (omega arith) in rw r' (omega arith)) in
      record {
        readable = rw (k, n) i.readable;
        laid = rw (upto-on e es (rw k), u) (laid-file v b a fs rest e (upto es) (upto ws) k y i.laid);
      }

  -- an empty entry that takes the gap, beside one that is no file
  mends_gap : (e f : Entry) (es ws : List Entry) → kind e ≡ Empty → blocks e ≡ next_first v fs - b → is_permanent (kind f) ≡ false → is_end (kind f) ≡ false
      → fs ≡ firsts a (upto (f ∷ ws) ++ rest) → a + total (upto (f ∷ ws) ++ rest) ≡ v
      → (a + blocks f ≤ b + (next_first v fs - b) → fs ≡ firsts (a + blocks f) (upto ws ++ rest) → a + blocks f + total (upto ws ++ rest) ≡ v
      → b + (next_first v fs - b) ≤ next_first v fs → Mends v (b + (next_first v fs - b)) (a + blocks f) fs rest es ws)
      → Mends v b a fs rest (e ∷ es) (f ∷ ws)
  unfolding scan_bad total
  mends_gap e f es ws k n h g q t i =
      let u : upto (f ∷ ws) ≡ f ∷ upto ws = upto-on f ws g in
      let r : fs ≡ firsts (a + blocks f) (upto ws ++ rest) = q ∙ (rw (u, files_other a f (upto ws ++ rest) h)) in
      let t' : a + (blocks f + total (upto ws ++ rest)) ≡ v = rw u at t in
      let j = next-first v (a + blocks f) (upto ws ++ rest) (omega arith) in
      let j' : a + blocks f ≤ next_first v fs = rw r j in
      let m = i (omega arith) r (omega arith) (omega arith) in
      record {
        readable = rw k m.readable;
        laid = rw (upto-on e es (rw k), u) (laid-gap v b a fs rest e f (upto es) (upto ws) k h (rw n m.laid));
      }

-- what is known of a slot by its kind
no-file : (e : Entry) → NoFile e → (is_permanent (kind e) ≡ false) × (is_end (kind e) ≡ false)
no-file e (inl k) = (rw k, rw k)
no-file e (inr k) = (rw k, rw k)

short : (p : Bool) (e : Entry) (es : List Entry) → kind e ≡ Permanent → scan_bad p (e ∷ es) ≡ false → long_named e ≡ false
unfolding scan_bad
short p e es k h = (neither p (long_named e) (neither (p || long_named e) (scan_bad false es) (rw k at h)).0).1

not_end : (e : Entry) → IsEntry (kind e) → is_end (kind e) ≡ false
not_end e (inl k) = rw k
not_end e (inr (inl k)) = rw k
not_end e (inr (inr k)) = rw k

none-bad : (p : Bool) → scan_bad p [] ≡ true
unfolding scan_bad
none-bad p = refl

unknown_bad : (p : Bool) (e : Entry) (es : List Entry) → kind e ≡ Unknown → scan_bad p (e ∷ es) ≡ true
unfolding scan_bad
unknown_bad p e es k = rw k

-- the whole of a segment's slots
module _ (w : ℕ) (wide : 7 ≤ w) (v : ℕ) (rest : List Entry) where
  -- beside f, which is no file, the tool makes e empty
  lays_gap : (e f : Entry) (es ws : List Entry) (b a : ℕ) (fs : List ℕ) → length e ≡ w → NoFile e → NoFile f → no_more es ≡ false
      → fs ≡ firsts a (upto (f ∷ ws) ++ rest) → a + total (upto (f ∷ ws) ++ rest) ≡ v → a ≤ b → b ≤ next_first v fs
      → (a + blocks f ≤ b + (next_first v fs - b) → fs ≡ firsts (a + blocks f) (upto ws ++ rest) → a + blocks f + total (upto ws ++ rest) ≡ v
      → b + (next_first v fs - b) ≤ next_first v fs
      → Mends v (b + (next_first v fs - b)) (a + blocks f) fs rest (mend v (b + (next_first v fs - b)) fs es) ws)
      → Mends v b a fs rest (mend v b fs (e ∷ es)) (f ∷ ws)
  lays_gap e f es ws b a fs x k c s q t l g i =
      let n = next_first v fs - b in
      let y = no-file f c in
      rw (mend-gap v b fs e es k s)
      (mends_gap v b a fs rest l g (emptied n e) f (mend v (b + n) fs es) ws (emptied-empty w wide e x n) (emptied-blocks w wide e x n)
      y.0 y.1 q t i)

  pub lays : {es ws : List Entry} → Mended es ws → (p : Bool) (b a : ℕ) (fs : List ℕ) → Wide w es → scan_bad p ws ≡ false
      → fs ≡ firsts a (upto ws ++ rest) → a + total (upto ws ++ rest) ≡ v → a ≤ b → b ≤ next_first v fs
      → Mends v b a fs rest (mend v b fs es) ws
  lays none p b a fs x h q t l g = absurd (true≢false (sym (none-bad p) ∙ h))
  lays (stop {e = e} {es = es} (inl k)) p b a fs x h q t l g =
      rw (mend-end v b fs e es k) (mends_end v b a fs rest l g e e es es q k k)
  lays (stop {e = e} {es = es} (inr k)) p b a fs x h q t l g = absurd (true≢false (sym (unknown_bad p e es k) ∙ h))
  lays (mark {e = e} {es = es} k) p b a fs x h q t l g =
      let y = marked-end w wide e x.0 in
      rw (mend-mark v b fs e es (rw k) (rw k)) (mends_end v b a fs rest l g (marked e) (marked e) es es q y y)
  lays (last {e = e} k) p b a fs x h q t l g =
      let y = marked-end w wide e x.0 in
      rw (mend-mark v b fs e [] (not_end e k) (or-true (is_unknown (kind e)))) (mends_end v b a fs rest l g (marked e) (marked e) [] [] q y y)
  lays (stay {e = e} {es = es} {fs = ws} (inr (inr k)) m) p b a fs x h q t l g =
      let r = after p e ws h (rw k) in
      rw (mend-file v b fs e es k (some m (is_tentative (kind e)) r))
      (mends_file v b a fs rest l g e (mend v (b + blocks e) (drop 1 fs) es) ws k (short p e ws k h) q t
      (λ l' q' t' g'. lays m (is_tentative (kind e)) (b + blocks e) (a + blocks e) (drop 1 fs) x.1 r q' t' l' g'))
  lays (stay {e = e} {es = es} {fs = ws} (inl k) m) p b a fs x h q t l g =
      let r = after p e ws h (rw k) in
      lays_gap e e es ws b a fs x.0 (inl k) (inl k) (some m (is_tentative (kind e)) r) q t l g
      (λ l' q' t' g'. lays m (is_tentative (kind e)) (b + (next_first v fs - b)) (a + blocks e) fs x.1 r q' t' l' g')
  lays (stay {e = e} {es = es} {fs = ws} (inr (inl k)) m) p b a fs x h q t l g =
      let r = after p e ws h (rw k) in
      lays_gap e e es ws b a fs x.0 (inr k) (inr k) (some m (is_tentative (kind e)) r) q t l g
      (λ l' q' t' g'. lays m (is_tentative (kind e)) (b + (next_first v fs - b)) (a + blocks e) fs x.1 r q' t' l' g')
  lays (turn {e = e} {es = es} {fs = ws} c k m) p b a fs x h q t l g =
      let f = emptied c e in
      let y = emptied-empty w wide e x.0 c in
      let r = after p f ws h (rw y) in
      lays_gap e f es ws b a fs x.0 k (inr y) (some m (is_tentative (kind f)) r) q t l g
      (λ l' q' t' g'. lays m (is_tentative (kind f)) (b + (next_first v fs - b)) (a + blocks f) fs x.1 r q' t' l' g')
