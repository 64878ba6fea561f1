-- How often a number stands in a list: where it does not stand, it is no element; where none stands twice, an element does not stand behind
-- itself. Each by whether the first element is the number. Assumes nothing.
use Prim.Native.Nat.{ℕ, suc, ◌≤◌}
use mathlib.Core.Path.{◌≡◌, refl}
use mathlib.Core.Logic.{◌≢◌}
use mathlib.Core.Bool.{Bool, true, false, cond}
use mathlib.Core.List.{List, ◌∷◌}
use native.Mathlib.Omega.{arith}
use native.Mathlib.Decide.{ℕ_discrete}
use lib.Dec.{eqb}
use borrow.Author.Tests.{eq-eqb, ne_eqb}
use Rattle.meaning.specs.Sound.{times}

pub times_none : (k x : ℕ) (xs : List ℕ) → times k (x ∷ xs) ≡ 0 → (x ≢ k) × (times k xs ≡ 0)
unfolding times
times_none k x xs h = go (ℕ_discrete x k)
  where
    go : Dec (x ≡ k) → (x ≢ k) × (times k xs ≡ 0)
    go (yes e) = absurd (let z = rw (eq-eqb x k e) at h in omega arith)
    go (no e) = (e, rw (ne_eqb x k e) at h)

pub times-rest : (k x : ℕ) (xs : List ℕ) → times k (x ∷ xs) ≤ 1 → times k xs ≤ 1
unfolding times
times-rest k x xs h = go (eqb x k) h
  where
    go : (z : Bool) → cond z (suc (times k xs)) (times k xs) ≤ 1 → times k xs ≤ 1
    go true l = omega arith
    go false l = l

pub times-own : (x : ℕ) (xs : List ℕ) → times x (x ∷ xs) ≤ 1 → times x xs ≡ 0
unfolding times
times-own x xs h = let z = rw (eq-eqb x x refl) at h in omega arith
