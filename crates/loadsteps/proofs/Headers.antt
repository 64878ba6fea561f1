-- A block's header, byte by byte, from wherever a block may start: each byte moves the reader on to the next phase.
use Prim.Native.Nat.{ℕ, ◌+◌, ◌*◌, ◌-◌, ◌≤◌}
use native.Mathlib.Omega.{arith}
use mathlib.Core.Path.{◌≡◌, refl}
use mathlib.Core.List.{List, ◌∷◌}
use borrow.Author.Tests.{le-ltb}
use Rattle.loadsteps.specs.Step.{after_start, after_one, after_count, after_header, role_of, passed_by}
use Rattle.loadsteps.specs.declared.Phase.{Phase}
use Rattle.loadsteps.specs.declared.Phase.TheVariants.{Start, Zero, CountLow, CountHigh, AddressLow, AddressHigh}
use Rattle.loadsteps.proofs.Runs.{at, Goes, goes_both, goes_byte}

-- the bytes of a header, where a block starts after bytes of the sum x
module _ (l x t o : ℕ) (m : List ℕ) where
  pub goes_one : (s : List ℕ) → Goes l (at Start x t o) (1 ∷ s) m (at Zero (x + 1) t (o + 1)) s m
  unfolding after_start
  goes_one s = goes_byte l Start Zero x t o 1 s m refl refl refl

  pub goes_zero : (s : List ℕ) → Goes l (at Start x t o) (1 ∷ 0 ∷ s) m (at CountLow (x + 1 + 0) t (o + 2)) s m
  unfolding after_one
  goes_zero s =
      let e : o + 1 + 1 ≡ o + 2 = omega arith in
      rw (← e) (goes_both (goes_one (0 ∷ s)) (goes_byte l Zero CountLow (x + 1) t (o + 1) 0 s m refl refl refl))

  pub goes_low : (c : ℕ) (s : List ℕ) → Goes l (at Start x t o) (1 ∷ 0 ∷ c ∷ s) m (at (CountHigh c) (x + 1 + 0 + c) t (o + 3)) s m
  goes_low c s =
      let e : o + 2 + 1 ≡ o + 3 = omega arith in
      rw (← e) (goes_both (goes_zero (c ∷ s)) (goes_byte l CountLow (CountHigh c) (x + 1 + 0) t (o + 2) c s m refl refl refl))

  pub goes_count : (c d : ℕ) (s : List ℕ) → 6 ≤ c + 256 * d
      → Goes l (at Start x t o) (1 ∷ 0 ∷ c ∷ d ∷ s) m (at (AddressLow (c + 256 * d - 6)) (x + 1 + 0 + c + d) t (o + 4)) s m
  unfolding after_count
  goes_count c d s h =
      let e : o + 3 + 1 ≡ o + 4 = omega arith in
      let n = c + 256 * d - 6 in
      rw (← e)
      (goes_both (goes_low c (d ∷ s))
      (goes_byte l (CountHigh c) (AddressLow n) (x + 1 + 0 + c) t (o + 3) d s m refl refl (rw (le-ltb (c + 256 * d) 6 h))))

  pub goes_address : (c d a : ℕ) (s : List ℕ) → 6 ≤ c + 256 * d
      → Goes l (at Start x t o) (1 ∷ 0 ∷ c ∷ d ∷ a ∷ s) m (at (AddressHigh (c + 256 * d - 6) a) (x + 1 + 0 + c + d + a) t (o + 5)) s m
  goes_address c d a s h =
      let e : o + 4 + 1 ≡ o + 5 = omega arith in
      let n = c + 256 * d - 6 in
      rw (← e)
      (goes_both (goes_count c d (a ∷ s) h) (goes_byte l (AddressLow n) (AddressHigh n a) (x + 1 + 0 + c + d) t (o + 4) a s m refl refl refl))

  -- the last byte, which leads to q
  pub goes_header : (c d a b : ℕ) (s : List ℕ) (q : Phase) → 6 ≤ c + 256 * d → after_header l (c + 256 * d - 6) (a + 256 * b) ≡ q
      → Goes l (at Start x t o) (1 ∷ 0 ∷ c ∷ d ∷ a ∷ b ∷ s) m (at q (x + 1 + 0 + c + d + a + b) t (o + 5 + passed_by (role_of q))) s m
  goes_header c d a b s q h e =
      goes_both (goes_address c d a (b ∷ s) h)
      (goes_byte l (AddressHigh (c + 256 * d - 6) a) q (x + 1 + 0 + c + d + a) t (o + 5) b s m refl refl e)
