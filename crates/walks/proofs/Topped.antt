-- The longest and the second longest length, by one pass. The second longest of n and others is the longest of the others, where
-- none of them is longer than n; else it is n or their second longest. So a pass from a and b, with b at most a, ends with the
-- longest of a and the list, and with b or the second longest of a and the list: by induction on the list. Assumes nothing.
use Prim.Native.Nat.{ℕ, ◌≤◌, ◌<◌, max}
use native.Mathlib.Omega.{arith}
use mathlib.Core.Path.{◌≡◌, ap, refl, ◌∙◌}
use mathlib.Core.Bool.{Bool, true, false, cond}
use mathlib.Core.Logic.{⊎_elim}
use mathlib.Core.List.{List, [], ◌∷◌}
use lib.Dec.{eqb, leb-zero}
use borrow.Author.Tests.{le-leb, lt-leb, eq-eqb, ne_eqb}
use Rattle.bools.proofs.Bools.{either_side}
use Rattle.meaning.specs.Enter.{longest_of, without, second_of}
use Rattle.walks.specs.Top.{top}

-- what is left without one is no longer
without_le : (k : ℕ) (ns : List ℕ) → longest_of (without k ns) ≤ longest_of ns
unfolding longest_of without
without_le k [] = omega arith
without_le k (n ∷ ns) = go (eqb n k) (without_le k ns)
  where
    go : (t : Bool) → longest_of (without k ns) ≤ longest_of ns
        → longest_of (cond t ns (n ∷ without k ns)) ≤ max n (longest_of ns)
    go true h = omega arith
    go false h = omega arith

pub second_le : (ns : List ℕ) → second_of ns ≤ longest_of ns
unfolding second_of
second_le ns = without_le (longest_of ns) ns

second_short : (n : ℕ) (ns : List ℕ) → n < longest_of ns → second_of (n ∷ ns) ≡ max n (second_of ns)
unfolding second_of longest_of without
second_short n ns l =
    let m : max n (longest_of ns) ≡ longest_of ns = omega arith in
    rw (m, ne_eqb n (longest_of ns) (λ e. omega arith)) (ap (λ (k : ℕ). max n (longest_of (without k ns))) m)

second-long : (n : ℕ) (ns : List ℕ) → longest_of ns ≤ n → second_of (n ∷ ns) ≡ longest_of ns
unfolding second_of longest_of without
second-long n ns l =
    let m : max n (longest_of ns) ≡ n = omega arith in
    rw (m, eq-eqb n n refl)

-- the second longest of a, n and others, where n is the longer, and where it is the shorter
behind_longer : (a n : ℕ) (ns : List ℕ) → a ≤ n → second_of (a ∷ n ∷ ns) ≡ max a (second_of (n ∷ ns))
unfolding longest_of
behind_longer a n ns h =
    ⊎_elim (λ l. second_short a (n ∷ ns) l)
    (λ l. rw (second-long a (n ∷ ns) l, second-long n ns (omega arith)) (omega arith))
    (either_side a (longest_of (n ∷ ns)))

behind_shorter : (a n : ℕ) (ns : List ℕ) → n < a → second_of (a ∷ n ∷ ns) ≡ max n (second_of (a ∷ ns))
unfolding longest_of
behind_shorter a n ns h =
    ⊎_elim
    (λ l. rw (second_short a (n ∷ ns) (omega arith), second_short n ns (omega arith), second_short a ns l) (omega arith))
    (λ l. rw (second-long a (n ∷ ns) (omega arith), second-long a ns l))
    (either_side a (longest_of ns))

pairs : {a b c e : ℕ} → a ≡ c → b ≡ e → ◌≡◌ {A = ℕ × ℕ} (a, b) (c, e)
pairs h k = rw (h, k)

top_from : (a b : ℕ) (ns : List ℕ) → b ≤ a → top (a, b) ns ≡ (longest_of (a ∷ ns), max b (second_of (a ∷ ns)))
unfolding top longest_of
top_from a b [] h = rw (second-long a [] (omega arith)) (pairs (omega arith) (omega arith))
top_from a b (n ∷ ns) h =
    ⊎_elim
    (λ l. rw (lt-leb a n l, behind_shorter) (top_from a (max b n) ns (omega arith) ∙ pairs (omega arith) (omega arith)))
    (λ l. rw (le-leb a n l, behind_longer) (top_from n a ns l ∙ pairs (omega arith) (omega arith)))
    (either_side n a)

pub top-is : (ns : List ℕ) → top (0, 0) ns ≡ (longest_of ns, second_of ns)
unfolding top longest_of second_of without
top-is [] = refl
top-is (n ∷ ns) = rw leb-zero (top_from n 0 ns (omega arith) ∙ pairs refl (omega arith))
