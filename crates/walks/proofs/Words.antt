-- A segment as words of the directory. What is taken or dropped of a part is taken or dropped of the whole; so a word or a slot of a
-- segment is read in the directory too, 512 words further on for each segment before it. A segment put in its place is that segment there,
-- and no other has changed. Assumes nothing.
use Prim.Native.Nat.{ℕ, zero, suc, ◌+◌, ◌*◌, ◌-◌, ◌≤◌, ◌<◌}
use native.Mathlib.Decide.{dec_lt}
use native.Mathlib.Nat.{add-zero, sub-zero, zero-sub, suc-sub-suc, not-suc-le-zero, le_of_suc-le-suc}
use native.Mathlib.Omega.{arith}
use mathlib.Core.Path.{◌≡◌, refl, sym, ap, ◌∙◌}
use mathlib.Core.List.{List, [], ◌∷◌, ◌++◌, append_assoc}
use lib.ListN.{length, get_or, take, drop, replicate, length-append, length-take, length-drop, take-append-drop}
use lib.Seq.{get_or-take, get_or-drop, take-take, drop-drop, take_at, drop_at, take-append-le, take-append-add, drop-append-le, drop-append-add}
use lib.Seq.{take-nil, length-take-le}
use Rattle.meaning.specs.Words.{segment}
use Rattle.meaning.specs.Enter.{with_segment, header_of}

-- parts of parts
pub drop-take : (a b : ℕ) (l : List ℕ) → drop a (take b l) ≡ take (b - a) (drop a l)
drop-take zero b l = rw sub-zero
drop-take (suc a) zero l = rw (zero-sub (suc a))
drop-take (suc a) (suc b) [] = sym (take-nil (suc b - suc a))
drop-take (suc a) (suc b) (x ∷ l) = rw suc-sub-suc (drop-take a b l)

pub take-drop-take : (j w m : ℕ) (l : List ℕ) → j + w ≤ m → take w (drop j (take m l)) ≡ take w (drop j l)
take-drop-take j w m l h = ap (take w) (drop-take j m l) ∙ take-take w (m - j) (drop j l) (omega arith)

-- of two writes, the second at the place where the first ended, the words before the second are those before the first and the first; so
-- together they are one write of both lists
pub both_put : (b l m k a : List ℕ) (q : ℕ) → q ≤ length b → m ≡ take q b ++ l ++ drop (q + length l) b
    → a ≡ take (q + length l) m ++ k ++ drop (q + length l + length k) m
    → a ≡ take q b ++ (l ++ k) ++ drop (q + length (l ++ k)) b
both_put b l m k a q h u v =
    let n : ℕ = q + length l in
    let p : length (take q b ++ l) ≡ n = length-append (take q b) l ∙ ap (λ (j : ℕ). j + length l) (length-take-le q b h) in
    let head : take n m ≡ take q b ++ l = ap (take n) u ∙ take_at (take q b ++ l) (drop n b) n p in
    let tail : drop n m ≡ drop n b = ap (drop n) u ∙ drop_at (take q b ++ l) (drop n b) n p in
    let rest : drop (n + length k) m ≡ drop (n + length k) b =
    sym (drop-drop (length k) n m) ∙ ap (drop (length k)) tail ∙ drop-drop (length k) n b in
    let e : length (l ++ k) ≡ length l + length k = length-append l k in
    let j : q + length (l ++ k) ≡ n + length k = omega arith in
    v ∙ rw (head, rest, j, append_assoc (take q b) l k)

-- zeros
pub take_zeros : (n m : ℕ) → n ≤ m → take {A = ℕ} n (replicate m 0) ≡ replicate n 0
take_zeros zero m h = refl
take_zeros (suc n) zero h = absurd (not-suc-le-zero h)
take_zeros (suc n) (suc m) h = ap {B = List ℕ} (λ l. 0 ∷ l) (take_zeros n m (le_of_suc-le-suc h))

pub drop_zeros : (n m : ℕ) → drop {A = ℕ} n (replicate m 0) ≡ replicate (m - n) 0
drop_zeros zero m = rw (sub-zero m)
drop_zeros (suc n) zero = rw (zero-sub (suc n))
drop_zeros (suc n) (suc m) = rw (suc-sub-suc m n) (drop_zeros n m)

-- words before zeros, cut to m
pub cut_zeros : (m : ℕ) (l : List ℕ) → length l ≤ m → take m (l ++ replicate m 0) ≡ l ++ replicate (m - length l) 0
cut_zeros m l h =
    let e : m ≡ length l + (m - length l) = omega arith in
    ap (λ (i : ℕ). take i (l ++ replicate m 0)) e
    ∙ take-append-add l (replicate m 0) (m - length l)
    ∙ rw (take_zeros (m - length l) m (omega arith))

-- word k of the w words at p
pub word : (g : List ℕ) (p w k : ℕ) → k < w → get_or (take w (drop p g)) k 0 ≡ get_or g (p + k) 0
word g p w k h = get_or-take w (drop p g) k 0 h ∙ get_or-drop p g k 0

-- the first of them, which code reads at p and not at p + 0
pub word0 : (g : List ℕ) (p w : ℕ) → 0 < w → get_or (take w (drop p g)) 0 0 ≡ get_or g p 0
word0 g p w h = word g p w 0 h ∙ ap (λ (i : ℕ). get_or g i 0) (add-zero p)

-- the first word of segment s
abbrev pub base : ℕ → ℕ
base s = 512 * (s - 1)

-- word k of segment s, and word 0
pub header : (d : List ℕ) (s k : ℕ) → k < 512 → get_or (segment d s) k 0 ≡ get_or d (base s + k) 0
unfolding segment
header d s k h = word d (base s) 512 k h

pub header0 : (d : List ℕ) (s : ℕ) → get_or (segment d s) 0 0 ≡ get_or d (base s) 0
unfolding segment
header0 d s = word0 d (base s) 512 (omega arith)

-- the slot of w words at word q of segment s
pub slot-there : (d : List ℕ) (s w q : ℕ) → q + w ≤ 512 → take w (drop q (segment d s)) ≡ take w (drop (base s + q) d)
unfolding segment
slot-there d s w q h = take-drop-take q w 512 (drop (base s) d) h ∙ ap (take w) (drop-drop q (base s) d)

-- a segment that lies in the directory, and its header
pub segment-length : (d : List ℕ) (s : ℕ) → 1 ≤ s → 512 * s ≤ length d → length (segment d s) ≡ 512
unfolding segment
segment-length d s l h = simp (length-take, length-drop) (omega arith)

pub header-length : (d : List ℕ) (s : ℕ) → 1 ≤ s → 512 * s ≤ length d → length (header_of d s) ≡ 5
unfolding header_of
header-length d s l h = length-take-le 5 (segment d s) (omega (arith, segment-length d s l h))

pub header_word : (d : List ℕ) (s j : ℕ) → j < 5 → get_or (header_of d s) j 0 ≡ get_or (segment d s) j 0
unfolding header_of
header_word d s j h = get_or-take 5 (segment d s) j 0 h

-- a segment put where it stands
pub with_self : (d : List ℕ) (s : ℕ) → 1 ≤ s → with_segment d s (segment d s) ≡ d
unfolding with_segment segment
with_self d s l =
    let e : 512 * s ≡ base s + 512 = omega arith in
    append_assoc (take (base s) d) (take 512 (drop (base s) d)) (drop (512 * s) d)
    ∙ (rw (e, ← (drop-drop 512 (base s) d), take-append-drop 512 (drop (base s) d)) (take-append-drop (base s) d))

-- a segment put in its place
module _ (d : List ℕ) (s : ℕ) (g : List ℕ) (low : 1 ≤ s) (high : 512 * s ≤ length d) (whole : length g ≡ 512) where
  abbrev front : List ℕ
  front = take (base s) d

  abbrev back : List ℕ
  back = drop (512 * s) d

  front_length : length front ≡ base s
  front_length = length-take-le (base s) d (omega arith)

  with_is : with_segment d s g ≡ front ++ (g ++ back)
  unfolding with_segment
  with_is = append_assoc front g back

  pub with_length : length (with_segment d s g) ≡ length d
  unfolding with_segment
  with_length = simp (length-append, length-drop, front_length) (omega arith)

  pub with_own : segment (with_segment d s g) s ≡ g
  unfolding segment
  with_own = rw (with_is, drop_at front (g ++ back) (base s) front_length) (take_at g back 512 whole)

  pub with_other : (t : ℕ) → 1 ≤ t → (t ≡ s → ⊥) → segment (with_segment d s g) t ≡ segment d t
  unfolding segment
  with_other t l ne = rw with_is (go (dec_lt t s))
    where
      go : Dec (t < s) → take 512 (drop (base t) (front ++ (g ++ back))) ≡ take 512 (drop (base t) d)
      go (yes x) =
          let f = front_length in
          let c = length-drop (base t) front in
          ap (take 512) (drop-append-le (base t) front (g ++ back) (omega arith))
          ∙ take-append-le 512 (drop (base t) front) (g ++ back) (omega arith)
          ∙ take-drop-take (base t) 512 (base s) d (omega arith)
      go (no x) =
          let f = front_length in
          let i : ℕ = base t - 512 * s in
          let a : length (front ++ g) ≡ 512 * s = length-append front g ∙ omega arith in
          let e : base t ≡ length (front ++ g) + i = omega (arith, ne) in
          let u : 512 * s + i ≡ base t = omega (arith, ne) in
          ap (take 512)
          (ap (drop (base t)) (sym (append_assoc front g back))
          ∙ ap (λ (k : ℕ). drop k ((front ++ g) ++ back)) e
          ∙ drop-append-add (front ++ g) back i
          ∙ drop-drop i (512 * s) d
          ∙ ap (λ (k : ℕ). drop k d) u)
