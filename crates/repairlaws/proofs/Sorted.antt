-- Files that are the same in whatever order have the same first blocks, sorted. Where those of the second list rise, they are the sorted ones
-- of the first: each file of the first list is taken out of the second, and its first block goes back in where it was taken out.
use Prim.Native.Nat.{ℕ, ◌≤◌}
use mathlib.Core.Path.{◌≡◌, refl, ap, ◌∙◌}
use mathlib.Core.Logic.{◌⊎◌, inl, inr}
use mathlib.Core.Bool.{Bool, true, false, cond, ◌||◌, false≢true}
use mathlib.Core.List.{List, [], ◌∷◌}
use native.Mathlib.Omega.{arith}
use lib.Dec.{leb}
use borrow.Author.Tests.{le-leb, leb-true}
use Rattle.bools.proofs.Bools.{both, either}
use Rattle.meaning.specs.Sound.{any}
use Rattle.repaired.specs.Kept.{KeptFile, same_file, taken_out, same_files}
use Rattle.repaired.specs.Tool.{insert_first, sorted, firsts_of}
use Rattle.repaired.proofs.Files.{same-file, own-file}

-- the numbers rise from b on
abbrev pub Rising : ℕ → List ℕ → Type 0
Rising b [] = Unit {0}
Rising b (x ∷ xs) = (b ≤ x) × Rising x xs

-- a list is the same as itself
pub same-files : (fs : List KeptFile) → same_files fs fs ≡ true
unfolding same_files any taken_out
same-files [] = refl
same-files (f ∷ fs) = rw (own-file f) (same-files fs)

-- a lower number before numbers that rise
pub lower : (a b : ℕ) (xs : List ℕ) → a ≤ b → Rising b xs → Rising a xs
lower a b [] l r = tt
lower a b (x ∷ xs) l r = (omega arith, r.1)

-- a number goes in before those that rise from it, and after one that is not above it
insert_low : (x : ℕ) (ys : List ℕ) → Rising x ys → insert_first x ys ≡ x ∷ ys
unfolding insert_first
insert_low x [] r = refl
insert_low x (y ∷ ys) r = rw (le-leb x y r.0)

insert_past : (x y : ℕ) (ys : List ℕ) → y ≤ x → Rising y ys → insert_first x (y ∷ ys) ≡ y ∷ insert_first x ys
unfolding insert_first
insert_past x y ys l r = go (leb x y) refl
  where
    go : (z : Bool) → leb x y ≡ z → cond z (x ∷ y ∷ ys) (y ∷ insert_first x ys) ≡ y ∷ insert_first x ys
    go true h =
        let k = leb-true x y h in
        let e : x ≡ y = omega arith in
        rw (e, insert_low y ys r)
    go false h = refl

-- a file that stands in a list whose first blocks rise
among : (f : KeptFile) (gs : List KeptFile) (b : ℕ) → any (same_file f) gs ≡ true → Rising b (firsts_of gs) → b ≤ f.first
unfolding any firsts_of
among f [] b h r = absurd (false≢true h)
among f (g ∷ gs) b h r = go (λ e. among f gs g.first e r.1) (either (same_file f g) (any (same_file f) gs) h)
  where
    go : (any (same_file f) gs ≡ true → g.first ≤ f.first)
        → (same_file f g ≡ true) ⊎ (any (same_file f) gs ≡ true) → b ≤ f.first
    go i (inl e) = rw (same-file f g e) r.0
    go i (inr e) = let j = i e in let l = r.0 in omega arith

put_back : (f : KeptFile) (gs : List KeptFile) (b : ℕ) → any (same_file f) gs ≡ true → Rising b (firsts_of gs)
    → (insert_first f.first (firsts_of (taken_out f gs)) ≡ firsts_of gs) × Rising b (firsts_of (taken_out f gs))
unfolding any taken_out firsts_of
put_back f [] b h r = absurd (false≢true h)
put_back f (g ∷ gs) b h r = go (same_file f g) refl h (put_back f gs g.first)
  where
    go : (x : Bool) → same_file f g ≡ x → x || any (same_file f) gs ≡ true
        → (any (same_file f) gs ≡ true → Rising g.first (firsts_of gs)
        → (insert_first f.first (firsts_of (taken_out f gs)) ≡ firsts_of gs) × Rising g.first (firsts_of (taken_out f gs)))
        → (insert_first f.first (firsts_of (cond x gs (g ∷ taken_out f gs))) ≡ g.first ∷ firsts_of gs)
        × Rising b (firsts_of (cond x gs (g ∷ taken_out f gs)))
    go true e k i =
        let q = same-file f g e in
        let l : Rising f.first (firsts_of gs) = rw q r.1 in
        (insert_low f.first (firsts_of gs) l ∙ (rw q), lower b g.first (firsts_of gs) r.0 r.1)
    go false e k i =
        let j = i k r.1 in (
          insert_past f.first g.first (firsts_of (taken_out f gs)) (among f gs g.first k r.1) j.1
              ∙ ap {B = List ℕ} (λ l. g.first ∷ l) j.0,
          (r.0, j.1),
        )

pub sorted-same : (fs gs : List KeptFile) (b : ℕ) → same_files fs gs ≡ true → Rising b (firsts_of gs)
    → sorted (firsts_of fs) ≡ firsts_of gs
unfolding same_files sorted firsts_of
sorted-same [] [] b h r = refl
sorted-same [] (g ∷ gs) b h r = absurd (false≢true h)
sorted-same (f ∷ fs) gs b h r =
    let p = both (any (same_file f) gs) (same_files fs (taken_out f gs)) h in
    let q = put_back f gs b p.0 r in
    ap (insert_first f.first) (sorted-same fs (taken_out f gs) b p.1 q.1) ∙ q.0
