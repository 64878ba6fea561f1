-- A fresh start written word by word: among words that are all 0, each word that is set stands where the rendered segment has it: header, entry, extras, marker, zeros. Assumes nothing.
use Prim.Native.Nat.{ℕ, zero, suc, ◌+◌, ◌*◌, ◌-◌, ◌≤◌, ◌<◌}
use native.Mathlib.Omega.{arith}
use mathlib.Core.Path.{◌≡◌, ap, ◌∙◌}
use mathlib.Core.List.{List, [], ◌∷◌, ◌++◌, append_assoc}
use lib.ListN.{length, take, set, replicate, replicate-append-replicate}
use Rattle.meaning.specs.Words.{segments, first_data}
use Rattle.meaning.specs.Kinds.{empty_status, end_status}
use Rattle.meaning.specs.Requests.{entry_of, empty_entry, flat, render, fresh_words}
use Rattle.walks.proofs.Words.{take_zeros}

-- one word set among zeros
set_zeros : (k m : ℕ) (x : ℕ) → set (replicate (k + suc m) 0) k x ≡ replicate k 0 ++ x ∷ replicate m 0
set_zeros zero m x = let e : 0 + suc m ≡ suc m = omega arith in rw e
set_zeros (suc k) m x = let e : suc k + suc m ≡ suc (k + suc m) = omega arith in rw (e, set_zeros k m x)

-- zeros, a word, and zeros, cut after j words
cut_zeros : (k j m : ℕ) (x : ℕ) → k < j → j ≤ k + suc m → take j (replicate k 0 ++ x ∷ replicate m 0) ≡ replicate k 0 ++ x ∷ replicate (j - suc k) 0
cut_zeros zero (suc j) m x h l =
    let e : suc j - 1 ≡ j = omega arith in rw (e, take_zeros j m (omega arith))
cut_zeros zero zero m x h l = absurd (omega arith)
cut_zeros (suc k) zero m x h l = absurd (omega arith)
cut_zeros (suc k) (suc j) m x h l =
    let e : suc j - suc (suc k) ≡ j - suc k = omega arith in
    rw (e, cut_zeros k j m x (omega arith) (omega arith))

-- more zeros after them
more_zeros : (k a b : ℕ) (x : ℕ) → (replicate k 0 ++ x ∷ replicate a 0) ++ replicate b 0 ≡ replicate k 0 ++ x ∷ replicate (a + b) 0
more_zeros k a b x =
    append_assoc (replicate k 0) (x ∷ replicate a 0) (replicate b 0)
    ∙ ap (λ (l : List ℕ). replicate k 0 ++ x ∷ l) (replicate-append-replicate a b 0)

-- the marker among zeros, and the same words as the rest of a rendered segment with b zeros after it
marked : (extra j z b m : ℕ) → extra < j → j ≤ extra + suc z → j - suc extra + b ≡ m
    → set {A = ℕ} (replicate (extra + suc m) 0) extra end_status ≡ take j (replicate extra 0 ++ end_status ∷ replicate z 0) ++ replicate b 0
marked extra j z b m l h e =
    rw (set_zeros extra m end_status, cut_zeros extra j z end_status l h, more_zeros extra (j - suc extra) b end_status, e)

-- the words of a fresh start on L words, set one by one among zeros
set_words : (l n x y extra b m : ℕ) → l ≡ 13 + extra + m → 500 - suc extra + b ≡ m → extra ≤ 16
    → set {A = ℕ} (set (set (set (set (set (set (replicate l 0) 0 n) 2 1) 3 (2 * extra)) 4 x) 5 empty_status) 9 y) (12 + extra) end_status
    ≡ render (n ∷ 0 ∷ 1 ∷ 2 * extra ∷ x ∷ []) (empty_entry (7 + extra) y ∷ []) ++ replicate b 0
unfolding render flat entry_of
set_words l n x y extra b m e h few =
    let f : l ≡ suc (suc (suc (suc (suc (suc (suc (suc (suc (suc (suc (suc (extra + suc m)))))))))))) = omega arith in
    let g : 12 + extra ≡ suc (suc (suc (suc (suc (suc (suc (suc (suc (suc (suc (suc extra))))))))))) = omega arith in
    let k : 7 + extra - 7 ≡ extra = omega arith in
    rw (f, g, k)
    (ap (λ (t : List ℕ). n ∷ 0 ∷ 1 ∷ 2 * extra ∷ x ∷ empty_status ∷ 0 ∷ 0 ∷ 0 ∷ y ∷ 0 ∷ 0 ∷ t)
    (marked extra 500 512 b m (omega arith) (omega arith) h))

pub started : (v : ℕ) (d : List ℕ) (extra : ℕ) → length d ≡ 512 * segments d → 1 ≤ segments d → extra ≤ 16
    → set
    (set
    (set (set (set (set (set (replicate (length d) 0) 0 (segments d)) 2 1) 3 (2 * extra)) 4 (first_data d)) 5 empty_status)
    9
    (v - first_data d))
    (12 + extra)
    end_status
    ≡ fresh_words v d extra
unfolding fresh_words
started v d extra whole some few =
    set_words (length d) (segments d) (first_data d) (v - first_data d) extra (512 * (segments d - 1)) (length d - 13 - extra)
    (omega arith)
    (omega arith)
    few
