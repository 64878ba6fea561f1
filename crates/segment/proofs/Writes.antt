-- Words written into a list, one write after another. A write leaves what stands before and after it, so two that follow each
-- other are one write of both lists; a copy, word by word, is a write of what is copied; and what is written into zeros from their
-- start is followed by zeros. Assumes nothing.
use Prim.Native.Nat.{ℕ, suc, ◌+◌, ◌≤◌, ◌<◌}
use native.Mathlib.Nat.{zero-add, suc-add}
use native.Mathlib.Numerals.{add-one}
use native.Mathlib.Omega.{arith}
use mathlib.Core.Path.{◌≡◌, refl, sym, ap, ◌∙◌}
use mathlib.Core.List.{List, [], ◌∷◌, ◌++◌, append_assoc}
use lib.ListN.{length, take, drop, set, replicate, length-set, length-append, length-drop}
use lib.Seq.{paste, paste-zero, length-paste, take-length, length-take-le}
use lib.Seq.{set-append_left, set_split}
use Rattle.walks.proofs.Words.{drop_zeros, cut_zeros, both_put}
use Rattle.segment.specs.Written.{Written}

-- a copy is a write
pub pasted : (b a s : List ℕ) (q : ℕ) → q + length s ≤ length b → a ≡ paste b q s (length s) → Written b q s a (q + length s)
pasted b a s q h e = record {
  words = e ∙ rw (take-length s);
  next = refl;
  long = ap length e ∙ length-paste b q s (length s) h (omega arith);
}

-- nothing
pub none_written : (b : List ℕ) (q : ℕ) → Written b q [] b q
none_written b q = record { words = paste-zero b q []; next = omega arith; long = refl }

-- one word
pub one_written : (b : List ℕ) (q x : ℕ) → q < length b → Written b q (x ∷ []) (set b q x) (q + 1)
one_written b q x h = record {
  words = set_split b q x h ∙ (rw add-one (sym (append_assoc (take q b) (x ∷ []) (drop (suc q) b))));
  next = refl;
  long = length-set b q x;
}

-- two writes, one after the other
pub both_written : (b l m k a : List ℕ) (q y z : ℕ) → q ≤ length b → Written b q l m y → Written m y k a z
    → Written b q (l ++ k) a z
both_written b l m k a q y z h u v = record {
  words = both_put b l m k a q h u.words (v.words ∙ rw u.next);
  next = v.next ∙ omega (arith, u.next, length-append l k);
  long = v.long ∙ u.long;
}

pub set-add : (xs ys : List ℕ) (n x : ℕ) → set (xs ++ ys) (length xs + n) x ≡ xs ++ set ys n x
set-add [] ys n x = rw (zero-add n)
set-add (y ∷ xs) ys n x = rw (suc-add (length xs) n) (ap {B = List ℕ} (λ l. y ∷ l) (set-add xs ys n x))

-- a word of what was written, set afterwards
pub set-written : (b s a : List ℕ) (q z n x : ℕ) → q ≤ length b → n < length s → Written b q s a z
    → Written b q (set s n x) (set a (q + n) x) z
set-written b s a q z n x h i u =
    let p : length (take q b) ≡ q = length-take-le q b h in
    let m : length (set s n x) ≡ length s = length-set s n x in
    let k : q + n < length (take q b ++ s) = (let e = length-append (take q b) s in omega arith) in
    let f : set (take q b ++ s) (q + n) x ≡ take q b ++ set s n x =
    ap (λ (j : ℕ). set (take q b ++ s) (j + n) x) (sym p) ∙ set-add (take q b) s n x in
    record {
      words =
          ap (λ (l : List ℕ). set l (q + n) x) u.words
          ∙ set-append_left (take q b ++ s) (drop (q + length s) b) (q + n) x k
          ∙ rw (f, m);
      next = u.next ∙ rw m;
      long = length-set a (q + n) x ∙ u.long;
    }

-- what was written lies in the list
pub written-fits : (b l a : List ℕ) (q z : ℕ) → q ≤ length b → Written b q l a z → z ≤ length b
written-fits b l a q z h u =
    let n = simp (length-append, length-drop, length-take-le q b h) at (sym u.long ∙ ap length u.words) in
    omega (arith, u.next)

-- words written into m zeros
pub written-anew : (m : ℕ) (l o : List ℕ) (z : ℕ) → z ≤ m → Written (replicate m 0) 0 l o z → o ≡ take m (l ++ replicate m 0)
written-anew m l o z h u =
    let e : 0 + length l ≡ length l = zero-add (length l) in
    u.words ∙ rw (e, drop_zeros (length l) m) (sym (cut_zeros m l (omega (arith, u.next))))
