-- Words written before others that were written already, as one write of both lists; and the words that a write keeps. Assumes nothing.
use Prim.Native.Nat.{ℕ, zero, suc, ◌+◌, ◌≤◌, ◌<◌}
use native.Mathlib.Omega.{arith}
use mathlib.Core.Path.{◌≡◌, refl, ap, ◌∙◌}
use mathlib.Core.List.{List, [], ◌∷◌, ◌++◌, append_assoc}
use lib.ListN.{length, get_or, take, drop, replicate, length-append, get_or-append}
use lib.Seq.{length-take-le, take-append-le, take-take, drop_at, get_or-take}
use Rattle.segment.specs.Written.{Written}

-- what was written, with the words before it and after it
module _ {b l a : List ℕ} {q z : ℕ} (h : q ≤ length b) (u : Written b q l a z) where
  front : length (take q b) ≡ q
  front = length-take-le q b h

  same-words : a ≡ take q b ++ (l ++ drop (q + length l) b)
  same-words = u.words ∙ append_assoc (take q b) l (drop (q + length l) b)

  pub before-kept : (n : ℕ) → n ≤ q → take n a ≡ take n b
  before-kept n k =
      ap (take n) same-words
      ∙ take-append-le n (take q b) (l ++ drop (q + length l) b) (omega (arith, front))
      ∙ take-take n q b k

  pub word_kept : (n : ℕ) → n < q → get_or a n 0 ≡ get_or b n 0
  word_kept n k =
      ap (λ (x : List ℕ). get_or x n 0) same-words
      ∙ get_or-append (take q b) (l ++ drop (q + length l) b) 0 n (omega (arith, front))
      ∙ get_or-take q b n 0 k

  pub from-there : drop q a ≡ l ++ drop (q + length l) b
  from-there = ap (drop q) same-words ∙ drop_at (take q b) (l ++ drop (q + length l) b) q front

-- words written before those
pub prior_written : (b k m l a : List ℕ) (q y z : ℕ) → q + length l ≤ length b → Written b (q + length l) k m z → Written m q l a y
    → Written b q (l ++ k) a z
prior_written b k m l a q y z h u v =
    let e : length (l ++ k) ≡ length l + length k = length-append l k in
    let j : q + length l + length k ≡ q + length (l ++ k) = omega arith in
    record {
      words =
          v.words
          ∙ rw (before-kept h u q (omega arith), from-there h u, j, append_assoc (take q b) l (k ++ drop (q + length (l ++ k)) b))
          (simp append_assoc);
      next = u.next ∙ j;
      long = v.long ∙ u.long;
    }

-- a turn of the clearing
zeros_more : (n : ℕ) → ◌≡◌ {A = List ℕ} (replicate n 0 ++ (0 ∷ [])) (replicate (suc n) 0)
zeros_more zero = refl
zeros_more (suc n) = ap {B = List ℕ} (λ l. 0 ∷ l) (zeros_more n)
