-- The next free block along entries, and what two lists of entries one after the other give: both the free block and the moves of the second
-- list begin where the first list's end.
use Prim.Native.Nat.{ℕ, ◌+◌, ◌≤◌}
use mathlib.Core.Path.{◌≡◌, refl}
use mathlib.Core.Logic.{⊎_elim}
use mathlib.Core.Bool.{Bool, true, false, cond}
use mathlib.Core.List.{List, [], ◌∷◌, ◌++◌}
use native.Mathlib.Nat.{add-zero, add_assoc}
use native.Mathlib.Omega.{arith}
use Rattle.meaning.specs.Words.{Entry, blocks, total}
use Rattle.squeezed.specs.Moves.{Move, idle, needed}
use Rattle.squeezed.specs.Squeeze.{is_file, new_place, free_up_to, places}
use Rattle.squeezed.proofs.Steps.{sure, place-bounds, free-past, free-over}

-- the next free block does not pass the end of the entries
pub free-bounds : (es : List Entry) (b p : ℕ) → p ≤ b → (p ≤ free_up_to b p es) × (free_up_to b p es ≤ b + total es)
unfolding total free_up_to
free-bounds [] b p h = (omega arith, omega arith)
free-bounds (e ∷ es) b p h =
    let q = new_place b p e in
    let y = place-bounds b p e h in
    let l : q + blocks e ≤ b + blocks e = omega arith in
    let k : p ≤ b + blocks e = omega arith in
    ⊎_elim
    (λ f.
    let i = free-bounds es (b + blocks e) (q + blocks e) l in
    rw (free-over b p e es f) (omega arith, omega arith))
    (λ f. let i = free-bounds es (b + blocks e) p k in rw (free-past b p e es f) (omega arith, omega arith))
    (sure (is_file e))

-- of entries one after the other
pub free-append : (xs ys : List Entry) (b p : ℕ) → free_up_to b p (xs ++ ys) ≡ free_up_to (b + total xs) (free_up_to b p xs) ys
unfolding free_up_to total
free-append [] ys b p = rw (add-zero b)
free-append (x ∷ xs) ys b p = rw (← (add_assoc b (blocks x) (total xs))) (free-append xs ys (b + blocks x) _)

pub places-append : (xs ys : List Entry) (b p : ℕ) → places b p (xs ++ ys) ≡ places b p xs ++ places (b + total xs) (free_up_to b p xs) ys
unfolding places free_up_to total
places-append [] ys b p = rw (add-zero b)
places-append (x ∷ xs) ys b p =
    rw (places-append xs ys (b + blocks x) _, ← (add_assoc b (blocks x) (total xs))) (go (is_file x) _ _ _)
  where
    go : (z : Bool) (m : Move) (us vs : List Move) → cond z (m ∷ (us ++ vs)) (us ++ vs) ≡ cond z (m ∷ us) us ++ vs
    go true m us vs = refl
    go false m us vs = refl

pub needed-append : (xs ys : List Move) → needed (xs ++ ys) ≡ needed xs ++ needed ys
unfolding needed
needed-append [] ys = refl
needed-append (x ∷ xs) ys = rw (needed-append xs ys) (go (idle x))
  where
    go : (z : Bool) → cond z (needed xs ++ needed ys) (x ∷ (needed xs ++ needed ys)) ≡ cond z (needed xs) (x ∷ needed xs) ++ needed ys
    go true = refl
    go false = refl
