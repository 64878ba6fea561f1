-- Rule 3 as code walks it: from segment 1, H segments in 1..H, each with segment 1's total and extra bytes, and then 0. The way
-- left to 0 has one length at each segment, so none comes twice. How often each of 1..H stands in a list sums up to how many of its
-- elements lie in 1..H: so H visits, none twice, are each of 1..H once exactly when all lie in 1..H. Assumes nothing.
use Prim.Native.Nat.{ℕ, zero, suc, ◌+◌, ◌*◌, ◌≤◌, ◌<◌}
use native.Mathlib.Nat.{eq-or-lt_of_le, le_of_suc-le-suc}
use native.Mathlib.Decide.{ℕ_discrete}
use native.Mathlib.Omega.{arith}
use mathlib.Core.Path.{◌≡◌, refl, sym, ap, ◌∙◌}
use mathlib.Core.Bool.{Bool, true, false, cond, ◌&&◌, ◌||◌, not, true≢false, false≢true, and-false}
use mathlib.Core.Logic.{⊎_elim}
use mathlib.Core.List.{List, [], ◌∷◌}
use lib.ListN.{length}
use lib.Dec.{eqb, leb, ltb, leb-suc-suc}
use borrow.Author.Tests.{eqb-true, leb-true, leb-false, eq-eqb, ne_eqb, lt-ltb, le-ltb, ltb-false, not-false}
use Rattle.bools.proofs.Bools.{both, neither}
use Rattle.meaning.specs.Words.{segment, total_of, link_of, extra_bytes_of, highest, chain_from, reached, chain}
use Rattle.meaning.specs.Sound.{any, times, each_once, differs, bad3}
use Rattle.walks.specs.Links.{linked}
use Rattle.walks.specs.Lists.{All}
use Rattle.walks.proofs.Lists.{next, chain_length}
use Rattle.walks.proofs.Alls.{all_map}

-- what a walk tells of its first segment, and of one that is no more
pub record Visit (n : ℕ) (d : List ℕ) (s : ℕ) : Type 0 where
  pub low : 1 ≤ s
  pub high : s ≤ highest d
  pub total : total_of (segment d s) ≡ total_of d
  pub extra : extra_bytes_of (segment d s) ≡ extra_bytes_of d
  pub rest : linked n d (next d s) ≡ true

pub visit : (n : ℕ) (d : List ℕ) (s : ℕ) → linked (suc n) d s ≡ true → Visit n d s
unfolding linked
visit n d s h =
    let l = leb 1 s && leb s (highest d) in
    let t = eqb (total_of (segment d s)) (total_of d) in
    let x = eqb (extra_bytes_of (segment d s)) (extra_bytes_of d) in
    let p = both (l && t && x) (linked n d (next d s)) h in
    let q = both (l && t) x p.0 in
    let r = both l t q.0 in
    let b = both (leb 1 s) (leb s (highest d)) r.0 in
    record {
      low = leb-true 1 s b.0;
      high = leb-true s (highest d) b.1;
      total = eqb-true (total_of (segment d s)) (total_of d) r.1;
      extra = eqb-true (extra_bytes_of (segment d s)) (extra_bytes_of d) q.1;
      rest = p.1;
    }

at-end : (d : List ℕ) (s : ℕ) → linked zero d s ≡ true → s ≡ 0
unfolding linked
at-end d s h = eqb-true s 0 h

-- how many segments are left is known from the segment
pub left_is : (n m : ℕ) (d : List ℕ) (s : ℕ) → linked n d s ≡ true → linked m d s ≡ true → n ≡ m
left_is zero zero d s h k = refl
left_is zero (suc m) d s h k = absurd (omega (arith, at-end d s h, (visit m d s k).low))
left_is (suc n) zero d s h k = absurd (omega (arith, at-end d s k, (visit n d s h).low))
left_is (suc n) (suc m) d s h k = ap suc (left_is n m d (next d s) (visit n d s h).rest (visit m d s k).rest)

module _ (d : List ℕ) (k : ℕ) where
  -- where fewer segments are left than from k on, k does not come
  away : (m : ℕ) → linked m d k ≡ true → (n s : ℕ) → n < m → linked n d s ≡ true → times k (chain_from n d s) ≡ 0
  unfolding times chain_from
  away m w zero s l h = refl
  away m w (suc n) s l h =
      rw (ne_eqb s k (λ q. omega (arith, left_is (suc n) m d k (rw q at h) w)))
      (away m w n (next d s) (omega arith) (visit n d s h).rest)

  -- no segment comes twice
  pub once : (n s : ℕ) → linked n d s ≡ true → times k (chain_from n d s) ≤ 1
  unfolding times chain_from
  once zero s h = omega arith
  once (suc n) s h = go (ℕ_discrete s k) (once n (next d s) (visit n d s h).rest)
    where
      go : Dec (s ≡ k) → times k (chain_from n d (next d s)) ≤ 1 → times k (s ∷ chain_from n d (next d s)) ≤ 1
      go (yes q) f = rw (eq-eqb s k q, away (suc n) (rw q at h) n (next d s) (omega arith) (visit n d s h).rest) (omega arith)
      go (no q) f = rw (ne_eqb s k q) f

-- how many elements of a list lie in 1..n: the sum over 1..n of how often each stands in it
unfoldable inside : ℕ → List ℕ → ℕ
inside zero xs = 0
inside (suc n) xs = times (suc n) xs + inside n xs

inside-none : (n : ℕ) → inside n [] ≡ 0
unfolding inside times
inside-none zero = refl
inside-none (suc n) = rw (inside-none n)

inside-out : (n x : ℕ) (xs : List ℕ) → (1 ≤ x → x ≤ n → ⊥) → inside n (x ∷ xs) ≡ inside n xs
unfolding inside times
inside-out zero x xs h = refl
inside-out (suc n) x xs h =
    rw (ne_eqb x (suc n) (λ e. h (omega arith) (omega arith)), inside-out n x xs (λ a b. h a (omega arith)))

inside_in : (n x : ℕ) (xs : List ℕ) → 1 ≤ x → x ≤ n → inside n (x ∷ xs) ≡ suc (inside n xs)
unfolding inside times
inside_in zero x xs a b = absurd (omega arith)
inside_in (suc n) x xs a b =
    ⊎_elim (λ e. rw (eq-eqb x (suc n) e, inside-out n x xs (λ i j. omega arith)) (omega arith))
    (λ l. rw (ne_eqb x (suc n) (λ e. omega arith), inside_in n x xs a (le_of_suc-le-suc l)) (omega arith))
    (eq-or-lt_of_le b)

-- a number is none of 1..n
abbrev outside : ℕ → ℕ → Bool
outside n x = not (leb 1 x && leb x n)

inside-cons : (n x : ℕ) (xs : List ℕ) → inside n (x ∷ xs) ≡ cond (outside n x) (inside n xs) (suc (inside n xs))
inside-cons n x xs = go (leb 1 x) (leb x n) refl refl
  where
    go : (a b : Bool) → leb 1 x ≡ a → leb x n ≡ b → inside n (x ∷ xs) ≡ cond (not (a && b)) (inside n xs) (suc (inside n xs))
    go true true e f = inside_in n x xs (leb-true 1 x e) (leb-true x n f)
    go true false e f = inside-out n x xs (λ i j. omega (arith, leb-false x n f))
    go false b e f = inside-out n x xs (λ i j. omega (arith, leb-false 1 x e))

inside-length : (n : ℕ) (xs : List ℕ) → inside n xs ≤ length xs
inside-length n [] = rw inside-none (omega arith)
inside-length n (x ∷ xs) = rw inside-cons (go (outside n x) (inside-length n xs))
  where
    go : (t : Bool) → inside n xs ≤ length xs → cond t (inside n xs) (suc (inside n xs)) ≤ suc (length xs)
    go true i = omega arith
    go false i = omega arith

-- elements lie outside 1..n exactly when fewer lie inside than there are
any-outside : (n : ℕ) (xs : List ℕ) → any (outside n) xs ≡ ltb (inside n xs) (length xs)
unfolding any
any-outside n [] = rw inside-none
any-outside n (x ∷ xs) = rw (inside-cons, any-outside n xs) (go (outside n x))
  where
    go : (t : Bool) → t || ltb (inside n xs) (length xs) ≡ ltb (cond t (inside n xs) (suc (inside n xs))) (suc (length xs))
    go true = let i = inside-length n xs in sym (lt-ltb (inside n xs) (suc (length xs)) (omega arith))
    go false = sym (leb-suc-suc (suc (inside n xs)) (length xs))

each-inside : (n : ℕ) (xs : List ℕ) → each_once n xs ≡ true → inside n xs ≡ n
unfolding each_once inside
each-inside zero xs h = refl
each-inside (suc n) xs h =
    let p = both (eqb (times (suc n) xs) 1) (each_once n xs) h in
    rw (eqb-true (times (suc n) xs) 1 p.0, each-inside n xs p.1) (omega arith)

-- where no number stands twice, and n elements lie in 1..n, each of 1..n stands once
module _ (xs : List ℕ) (f : (k : ℕ) → times k xs ≤ 1) where
  inside-bound : (n : ℕ) → inside n xs ≤ n
  unfolding inside
  inside-bound zero = omega arith
  inside-bound (suc n) = omega (arith, f (suc n), inside-bound n)

  inside-each : (n : ℕ) → n ≤ inside n xs → each_once n xs ≡ true
  unfolding inside each_once
  inside-each zero h = refl
  inside-each (suc n) h =
      let a = f (suc n) in
      let b = inside-bound n in
      let e : times (suc n) xs ≡ 1 = omega arith in
      rw (e, inside-each n (omega arith))

-- the tests of a walk's first segment (a, b its number, t, x its words) and of the rest, sorted by what they test
apart : (a b t x q p e : Bool)
    → a && b && t && x && (not q && not p && e) ≡ not (not (a && b) || q) && not (not (t && x) || p) && e
apart true true true true q p e = refl
apart true true true false q p e = rw (and-false (not q))
apart true true false x q p e = rw (and-false (not q))
apart true false t x q p e = refl
apart false b t x q p e = refl

-- a walk is three tests: all of the chain lies in 1..H, none of it differs, and it ends
linked-is : (n : ℕ) (d : List ℕ) (s : ℕ)
    → linked n d s
    ≡ not (any (outside (highest d)) (chain_from n d s)) && not (any (differs d) (chain_from n d s)) && eqb (reached n d s) 0
unfolding linked reached chain_from any differs
linked-is zero d s = refl
linked-is (suc n) d s =
    let g = segment d s in
    let c = chain_from n d (link_of g) in
    rw (linked-is n d (link_of g))
    (apart (leb 1 s) (leb s (highest d)) (eqb (total_of g) (total_of d)) (eqb (extra_bytes_of g) (extra_bytes_of d))
    (any (outside (highest d)) c) (any (differs d) c) (eqb (reached n d (link_of g)) 0))

-- the rule's tests (o once each, e ends, p differs) and the walk's (r, with q outside)
agree : (o e p q r : Bool) → r ≡ not q && not p && e → (o ≡ true → q ≡ false) → (r ≡ true → q ≡ false → o ≡ true)
    → not (o && e) || p ≡ not r
agree true true true q r h f g = rw (h, f refl)
agree true true false q r h f g = rw (h, f refl)
agree true false true q r h f g = rw (h, f refl)
agree true false false q r h f g = rw (h, f refl)
agree false e p q false h f g = refl
agree false e p true true h f g = absurd (true≢false h)
agree false e p false true h f g = absurd (false≢true (g refl refl))

pub bad3-walk : (d : List ℕ) → bad3 d ≡ not (linked (highest d) d 1)
unfolding bad3 chain
bad3-walk d =
    let n = highest d in
    let c = chain_from n d 1 in
    let counted : any (outside n) c ≡ ltb (inside n c) n = any-outside n c ∙ ap (ltb (inside n c)) (chain_length n d 1) in
    agree (each_once n c) (eqb (reached n d 1) 0) (any (differs d) c) (any (outside n) c) (linked n d 1) (linked-is n d 1)
    (λ h. counted ∙ le-ltb (inside n c) n (omega (arith, each-inside n c h)))
    (λ h k. inside-each c (λ j. once d j n 1 h) n (ltb-false (inside n c) n (sym counted ∙ k)))

-- each of 1..H stands in the chain once
pub each-times : (n : ℕ) (xs : List ℕ) → each_once n xs ≡ true → (k : ℕ) → 1 ≤ k → k ≤ n → times k xs ≡ 1
unfolding each_once
each-times zero xs h k a b = absurd (omega arith)
each-times (suc n) xs h k a b =
    let p = both (eqb (times (suc n) xs) 1) (each_once n xs) h in
    ⊎_elim (λ e. rw e (eqb-true (times (suc n) xs) 1 p.0)) (λ l. each-times n xs p.1 k a (le_of_suc-le-suc l))
    (eq-or-lt_of_le b)

pub used-once : (d : List ℕ) → linked (highest d) d 1 ≡ true → (s : ℕ) → 1 ≤ s → s ≤ highest d → times s (chain d) ≡ 1
unfolding bad3
used-once d c s l h =
    let b : bad3 d ≡ false = bad3-walk d ∙ rw c in
    let e = each_once (highest d) (chain d) in
    let z = eqb (reached (highest d) d 1) 0 in
    let o = not-false (e && z) (neither (not (e && z)) (any (differs d) (chain d)) b).0 in
    each-times (highest d) (chain d) (both e z o).0 s l h

-- and no other stands there
beyond : (n : ℕ) (d : List ℕ) (s x : ℕ) → linked n d s ≡ true → highest d < x → times x (chain_from n d s) ≡ 0
unfolding times chain_from
beyond zero d s x h l = refl
beyond (suc n) d s x h l =
    let v = visit n d s h in
    rw (ne_eqb s x (λ e. omega (arith, v.high))) (beyond n d (next d s) x v.rest l)

pub unused_never : (d : List ℕ) → linked (highest d) d 1 ≡ true → (s : ℕ) → highest d < s → times s (chain d) ≡ 0
unfolding chain
unused_never d c s l = beyond (highest d) d 1 s c l

-- the segments of the chain are in use
abbrev pub Used : List ℕ → ℕ → Type 0
Used d s = (1 ≤ s) × (s ≤ highest d)

used-from : (d : List ℕ) (n s : ℕ) → linked n d s ≡ true → All (Used d) (chain_from n d s)
unfolding chain_from
used-from d zero s h = tt
used-from d (suc n) s h =
    let v = visit n d s h in
    ((v.low, v.high), used-from d n (next d s) v.rest)

pub chain-used : (d : List ℕ) → linked (highest d) d 1 ≡ true → All (Used d) (chain d)
unfolding chain
chain-used d h = used-from d (highest d) 1 h

-- a segment that lies in a slice of n words; and where H segments do, each of the chain does
abbrev pub Inside : ℕ → ℕ → Type 0
Inside n s = (1 ≤ s) × (512 * s ≤ n)

pub chain-inside : (d : List ℕ) → 512 * highest d ≤ length d → linked (highest d) d 1 ≡ true → All (Inside (length d)) (chain d)
chain-inside d l h = all_map (Used d) (Inside (length d)) (λ s u. (u.0, omega (arith, u.1))) (chain d) (chain-used d h)
