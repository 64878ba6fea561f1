-- The directory's words, read from bytes. The i-th word is made of the bytes 2i and 2i + 1 after the head, by induction over pairs of
-- bytes; and so many words as there are pairs are written, one after the other, as a text is copied. Assumes nothing.
use Prim.Native.Nat.{ℕ, zero, suc, ◌+◌, ◌*◌, ◌-◌, ◌/◌, ◌≤◌, ◌<◌}
use mathlib.Core.Path.{◌≡◌, refl, sym, ap, ◌∙◌}
use mathlib.Core.List.{List, [], ◌∷◌}
use native.Mathlib.Omega.{arith}
use native.Mathlib.Nat.{add-zero, zero-add}
use native.Mathlib.Numerals.{add-one}
use lib.ListN.{length, get_or, take, drop, set, length-drop}
use lib.Seq.{get_or-drop, take-suc, take-length}
use Rattle.meaning.specs.Listing.{word_at, words_in}
use Rattle.lines.specs.Wrote.{Wrote}
use Rattle.lines.proofs.Writes.{none, one, both}

-- a text that is copied: nothing of it, one byte more, and all of it
copy-none : (b t : List ℕ) (p : ℕ) → p ≤ length b → Wrote b p (take 0 t) b (p + 0)
copy-none b t p h = rw (add-zero p) (none b p h)

copy_more : (b m t : List ℕ) (p i : ℕ) → Wrote b p (take i t) m (p + i) → i < length t → p + length t ≤ length b
    → Wrote b p (take (i + 1) t) (set m (p + i) (get_or t i 0)) (p + (i + 1))
copy_more b m t p i u h r =
    let e : p + (i + 1) ≡ p + i + 1 = omega arith in
    rw (add-one i, take-suc t i 0 h, ← add-one i, e) (both u (one m (p + i) (get_or t i 0) (omega arith)))

copy-all : (b m t : List ℕ) (p i : ℕ) → Wrote b p (take i t) m (p + i) → i ≤ length t → length t ≤ i
    → Wrote b p t m (p + i)
copy-all b m t p i u h g =
    let e : i ≡ length t = omega arith in
    rw e (rw (e, take-length t) at u)

words_long : (bs : List ℕ) → length (words_in bs) ≡ length bs / 2
unfolding words_in
words_long [] = refl
words_long (low ∷ []) = refl
words_long (low ∷ high ∷ bs) = let i = words_long bs in omega arith

word_of : (bs : List ℕ) (i : ℕ) → 2 * i + 1 < length bs → get_or (words_in bs) i 0 ≡ word_at bs (2 * i)
unfolding words_in word_at
word_of [] i h = absurd (omega arith)
word_of (low ∷ []) i h = absurd (omega arith)
word_of (low ∷ high ∷ bs) zero h = refl
word_of (low ∷ high ∷ bs) (suc i) h =
    let e : 2 * suc i ≡ suc (suc (2 * i)) = omega arith in
    let f : suc (suc (2 * i)) + 1 ≡ suc (suc (2 * i + 1)) = omega arith in
    rw (e, f) (word_of bs i (omega arith))

-- the words from byte h on
abbrev pub words_from : ℕ → List ℕ → List ℕ
words_from h file = words_in (drop h file)

words-from-long : (h : ℕ) (file : List ℕ) → length (words_from h file) ≡ (length file - h) / 2
words-from-long h file = words_long (drop h file) ∙ ap (λ (n : ℕ). n / 2) (length-drop h file)

word_after : (h : ℕ) (file : List ℕ) (i : ℕ) → 2 * i + 1 < length (drop h file)
    → get_or (words_from h file) i 0 ≡ word_at file (h + 2 * i)
unfolding word_at
word_after h file i b =
    let e : h + 2 * i + 1 ≡ h + (2 * i + 1) = omega arith in
    word_of (drop h file) i b
    ∙ rw (get_or-drop h file (2 * i) 0, get_or-drop h file (2 * i + 1) 0, e)

word_from : (h : ℕ) (file : List ℕ) (i : ℕ) → i < length (words_from h file)
    → get_or (words_from h file) i 0 ≡ word_at file (h + 2 * i)
word_from h file i b =
    let n = words-from-long h file in
    word_after h file i (omega (arith, length-drop h file))

-- the loop: i of the words are loaded into b, which made it m
pub record Loading (h : ℕ) (file b m : List ℕ) (count i : ℕ) : Type 0 where
  pub all : count ≡ length (words_from h file)
  pub bytes : h + 2 * count ≤ length file
  pub room : count ≤ length b
  pub some : i ≤ count
  pub wrote : Wrote b 0 (take i (words_from h file)) m i

pub load_none : (h : ℕ) (file b : List ℕ) → h ≤ length file → length file ≤ h + 2 * length b
    → Loading h file b b ((length file - h) / 2) 0
load_none h file b l r = record {
  all = sym (words-from-long h file);
  bytes = omega arith;
  room = omega arith;
  some = omega arith;
  wrote = copy-none b (words_from h file) 0 (omega arith);
}

module _ {h : ℕ} {file b m : List ℕ} {count i : ℕ} (l : Loading h file b m count i) where
  pub load_more : {word : ℕ} → i < count → word ≡ word_at file (h + 2 * i)
      → Loading h file b (set m i word) count (i + 1)
  load_more {word} g e =
      let t = words_from h file in
      let n : i < length t = omega (arith, l.all) in
      let w = copy_more b m t 0 i (rw (zero-add i) l.wrote) n (omega (arith, l.all, l.room)) in
      record {
        all = l.all;
        bytes = l.bytes;
        room = l.room;
        some = omega arith;
        wrote = rw (e, ← word_from h file i n) (rw (zero-add i, zero-add (i + 1)) at w);
      }

  pub load_all : count ≤ i → Wrote b 0 (words_from h file) m count
  load_all g =
      let e : i ≡ count = omega (arith, l.some) in
      let w = copy-all b m (words_from h file) 0 i (rw (zero-add i) l.wrote) (omega (arith, l.all)) (omega (arith, l.all)) in
      rw (← e) (rw (zero-add i) at w)
