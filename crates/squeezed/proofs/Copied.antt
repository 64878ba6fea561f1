-- One move that does not go up. Block by block, lowest first: the block just written lies below all that are still to be written, and not above
-- any that is still to be read. So each block arrives as it stood, and all others stay.
use Prim.Native.Nat.{ℕ, zero, suc, ◌+◌, ◌≤◌, ◌<◌}
use mathlib.Core.Path.{◌≡◌, refl, ◌∙◌}
use mathlib.Core.List.{List}
use native.Mathlib.Nat.{not-suc-le-zero}
use native.Mathlib.Omega.{arith}
use lib.ListN.{length, set, length-set}
use lib.Seq.{get_or-set_same, get_or-set_other, set-get_or}
use Rattle.squeezed.specs.Moves.{block, copied}

module _ {A : Type 0} (blank : A) where
  pub copied-length : (n f t : ℕ) (vol : List A) → length (copied blank n f t vol) ≡ length vol
  unfolding copied
  copied-length zero f t vol = refl
  copied-length (suc n) f t vol = copied-length n _ _ _ ∙ length-set vol _ _

  -- a block below or above those that are written
  pub copied_below : (n f t : ℕ) (vol : List A) (i : ℕ) → i < t → block blank (copied blank n f t vol) i ≡ block blank vol i
  unfolding copied
  copied_below zero f t vol i h = refl
  copied_below (suc n) f t vol i h =
      copied_below n _ _ _ i (omega arith) ∙ get_or-set_other vol _ i _ blank (λ e. omega arith)

  pub copied_above : (n f t : ℕ) (vol : List A) (i : ℕ) → t + n ≤ i → block blank (copied blank n f t vol) i ≡ block blank vol i
  unfolding copied
  copied_above zero f t vol i h = refl
  copied_above (suc n) f t vol i h =
      copied_above n _ _ _ i (omega arith) ∙ get_or-set_other vol _ i _ blank (λ e. omega arith)

  -- a block that is written
  pub copied_at : (n f t : ℕ) (vol : List A) → t ≤ f → f + n ≤ length vol → (i : ℕ) → i < n
      → block blank (copied blank n f t vol) (t + i) ≡ block blank vol (f + i)
  unfolding copied
  copied_at zero f t vol l h i g = absurd (not-suc-le-zero g)
  copied_at (suc n) f t vol l h zero g =
      let u : t + 0 ≡ t = omega arith in
      let w : f + 0 ≡ f = omega arith in
      rw (u, w)
      (copied_below n (f + 1) (t + 1) (set vol t (block blank vol f)) t (omega arith)
      ∙ get_or-set_same vol t (block blank vol f) blank (omega arith))
  copied_at (suc n) f t vol l h (suc i) g =
      let u : t + suc i ≡ t + 1 + i = omega arith in
      let w : f + suc i ≡ f + 1 + i = omega arith in
      rw (u, w)
      (copied_at n (f + 1) (t + 1) (set vol t (block blank vol f)) (omega arith)
      (rw (length-set vol t (block blank vol f)) (omega arith)) i (omega arith)
      ∙ get_or-set_other vol t (f + 1 + i) (block blank vol f) blank (λ e. omega arith))

  -- blocks that are written where they stand
  pub copied_still : (n f : ℕ) (vol : List A) → copied blank n f f vol ≡ vol
  unfolding copied
  copied_still zero f vol = refl
  copied_still (suc n) f vol = rw (set-get_or vol f blank) (copied_still n (f + 1) vol)
