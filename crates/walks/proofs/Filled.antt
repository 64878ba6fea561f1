-- Rule 5 along segments: each begins where the one before it ended, and the last ends at V. So none ends behind V, and all their lengths
-- together fill the blocks from the first to V. Each by induction on the segments. Assumes nothing.
use Prim.Native.Nat.{ℕ, ◌+◌, ◌≤◌}
use native.Mathlib.Decide.{ℕ_discrete}
use native.Mathlib.Omega.{arith}
use mathlib.Core.Path.{◌≡◌, sym}
use mathlib.Core.Bool.{true}
use mathlib.Core.List.{List, [], ◌∷◌, ◌++◌}
use lib.Dec.{eqb}
use borrow.Author.Tests.{eqb-true, ne_eqb}
use Rattle.bools.proofs.Bools.{both}
use Rattle.meaning.specs.Words.{segment, first_of, Entry, entries, total, entries_of}
use Rattle.meaning.specs.Sound.{times, filled}

-- the lengths of two lists of entries
pub total-append : (xs ys : List Entry) → total (xs ++ ys) ≡ total xs + total ys
unfolding total
total-append [] ys = omega arith
total-append (x ∷ xs) ys = let i = total-append xs ys in omega arith

module _ (v : ℕ) (d : List ℕ) where
  pub filled-end : (b : ℕ) → filled v d b [] ≡ true → b ≡ v
  unfolding filled
  filled-end b h = eqb-true b v h

  pub filled_step : (b s : ℕ) (ss : List ℕ) → filled v d b (s ∷ ss) ≡ true
      → (first_of (segment d s) ≡ b) × (filled v d (b + total (entries d s)) ss ≡ true)
  unfolding filled
  filled_step b s ss h =
      let p = both (eqb (first_of (segment d s)) b) (filled v d (b + total (entries d s)) ss) h in
      (eqb-true (first_of (segment d s)) b p.0, p.1)

  -- segments that fill the blocks up to V begin at V or before
  pub filled_le : (b : ℕ) (ss : List ℕ) → filled v d b ss ≡ true → b ≤ v
  filled_le b [] h = omega (arith, filled-end b h)
  filled_le b (s ∷ ss) h = omega (arith, filled_le (b + total (entries d s)) ss (filled_step b s ss h).1)

  -- one of them ends by V
  pub filled_within : (ss : List ℕ) (b x : ℕ) → filled v d b ss ≡ true → times x ss ≡ 1
      → first_of (segment d x) + total (entries d x) ≤ v
  unfolding times
  filled_within [] b x h f = absurd (omega arith)
  filled_within (s ∷ ss) b x h f = go (ℕ_discrete s x) (filled_within ss (b + total (entries d s)) x p.1)
    where
      p : (first_of (segment d s) ≡ b) × (filled v d (b + total (entries d s)) ss ≡ true)
      p = filled_step b s ss h

      go : Dec (s ≡ x) → (times x ss ≡ 1 → first_of (segment d x) + total (entries d x) ≤ v)
          → first_of (segment d x) + total (entries d x) ≤ v
      go (yes e) i = rw (sym e) (omega (arith, p.0, filled_le (b + total (entries d s)) ss p.1))
      go (no e) i = i (rw (ne_eqb s x e) at f)

  -- all of them
  pub filled-sum : (b : ℕ) (ss : List ℕ) → filled v d b ss ≡ true → b + total (entries_of d ss) ≡ v
  unfolding entries_of total
  filled-sum b [] h = omega (arith, filled-end b h)
  filled-sum b (s ∷ ss) h =
      let i = filled-sum (b + total (entries d s)) ss (filled_step b s ss h).1 in
      let t = total-append (entries d s) (entries_of d ss) in
      omega arith
