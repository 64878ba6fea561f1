-- The test's comparison of files is that of multisets: one list is a permutation of the other. A file that is taken out of a list can be put
-- before it; and a permutation has each file as often, by which all can be taken out.
use Prim.Native.Nat.{ℕ, ◌+◌, ◌≤◌}
use mathlib.Core.Path.{◌≡◌, refl, ◌∙◌}
use mathlib.Core.Logic.{◌↔◌}
use mathlib.Core.Bool.{Bool, true, false, cond, ◌||◌, false≢true}
use mathlib.Core.List.Permᴰ
use mathlib.Core.List.{List, [], ◌∷◌, Permᴰ}
use native.Mathlib.Omega.{arith}
use Rattle.bools.proofs.Bools.{both}
use Rattle.meaning.specs.Sound.{any}
use Rattle.repaired.specs.Kept.{KeptFile, same_file, taken_out, same_files}
use Rattle.repaired.proofs.Files.{same-file, own-file}

-- a file taken out, and put before the rest
taken : (f : KeptFile) (gs : List KeptFile) → any (same_file f) gs ≡ true → Permᴰ (f ∷ taken_out f gs) gs
unfolding any taken_out
taken f [] h = absurd (false≢true h)
taken f (g ∷ gs) h = go (same_file f g) refl h (taken f gs)
  where
    go : (x : Bool) → same_file f g ≡ x → x || any (same_file f) gs ≡ true → (any (same_file f) gs ≡ true → Permᴰ (f ∷ taken_out f gs) gs)
        → Permᴰ (f ∷ cond x gs (g ∷ taken_out f gs)) (g ∷ gs)
    go true e k i = Permᴰ.cons (same-file f g e) (Permᴰ.refl gs)
    go false e k i = Permᴰ.trans (Permᴰ.swap refl refl) (Permᴰ.cons refl (i k))

same_permuted : (fs gs : List KeptFile) → same_files fs gs ≡ true → Permᴰ fs gs
unfolding same_files
same_permuted [] [] h = Permᴰ.nil
same_permuted [] (g ∷ gs) h = absurd (false≢true h)
same_permuted (f ∷ fs) gs h =
    let p = both (any (same_file f) gs) (same_files fs (taken_out f gs)) h in
    Permᴰ.trans (Permᴰ.cons refl (same_permuted fs (taken_out f gs) p.1)) (taken f gs p.0)

-- how often a file stands in a list
abbrev one_if : Bool → ℕ
one_if true = 1
one_if false = 0

unfoldable hits : KeptFile → List KeptFile → ℕ
hits f [] = 0
hits f (g ∷ gs) = one_if (same_file f g) + hits f gs

permuted_hits : (h : KeptFile) {fs gs : List KeptFile} → Permᴰ fs gs → hits h fs ≡ hits h gs
unfolding hits
permuted_hits h Permᴰ.nil = refl
permuted_hits h (Permᴰ.cons e p) = rw (e, permuted_hits h p)
permuted_hits h (Permᴰ.swap e f) = rw (e, f) (omega arith)
permuted_hits h (Permᴰ.trans p q) = permuted_hits h p ∙ permuted_hits h q

hit-there : (f : KeptFile) (gs : List KeptFile) → 1 ≤ hits f gs → any (same_file f) gs ≡ true
unfolding hits any
hit-there f [] l = absurd (omega arith)
hit-there f (g ∷ gs) l = go (same_file f g) l (hit-there f gs)
  where
    go : (x : Bool) → 1 ≤ one_if x + hits f gs → (1 ≤ hits f gs → any (same_file f) gs ≡ true) → x || any (same_file f) gs ≡ true
    go true l i = refl
    go false l i = i (omega arith)

-- all can be taken out
hits-same : (fs gs : List KeptFile) → ((h : KeptFile) → hits h fs ≡ hits h gs) → same_files fs gs ≡ true
unfolding same_files hits
hits-same [] [] e = refl
hits-same [] (g ∷ gs) e = absurd (let x : 0 ≡ 1 + hits g gs = rw (own-file g) at (e g) in omega arith)
hits-same (f ∷ fs) gs e =
    let x : 1 + hits f fs ≡ hits f gs = rw (own-file f) at (e f) in
    let a = hit-there f gs (omega arith) in
    rw a (hits-same fs (taken_out f gs) (λ h. let p = permuted_hits h (taken f gs a) in let q = e h in omega arith))

pub same_multiset : (fs gs : List KeptFile) → (same_files fs gs ≡ true) ↔ Permᴰ fs gs
same_multiset fs gs = (same_permuted fs gs, λ p. hits-same fs gs (λ h. permuted_hits h p))
