-- Refusals that Req 11 reports, with what was stored and where it was shown (`Refuses`): of a block whose header is wrong, and, where its data are told,
-- of one that the input ends in or whose checksum is wrong.
use Prim.Native.Nat.{ℕ, ◌+◌, ◌*◌, ◌-◌, ◌≤◌, ◌<◌}
use native.Mathlib.Nat.{add-zero}
use native.Mathlib.Omega.{arith}
use mathlib.Core.Path.{◌≡◌, refl}
use mathlib.Core.Bool.{true, false}
use mathlib.Core.List.{List, [], ◌∷◌}
use borrow.Author.Tests.{lt-ltb, ne_eqb}
use lib.ListN.{length}
use lib.Dec.{ltb}
use Rattle.loads.specs.Memory.{puts}
use Rattle.loads.specs.Blocks.{count_of, address_of, data_of}
use Rattle.loads.specs.declared.Part.TheVariants as parts
use Rattle.loadsteps.specs.Step.{after_start, after_one, after_count, after_header, role_of, decided_by}
use Rattle.loadsteps.specs.Whole.{shown_at, held_of}
use Rattle.loadsteps.specs.declared.Phase.{Phase}
use Rattle.loadsteps.specs.declared.Phase.TheVariants.{Start, Zero, CountHigh}
use Rattle.loadsteps.specs.declared.Phase.TheVariants as phases
use Rattle.loadsteps.specs.declared.Answer.TheVariants.{Refused}
use Rattle.loadsteps.proofs.Runs.{at, Goes, goes_both, goes_byte}
use Rattle.loadsteps.proofs.Headers.{goes_one, goes_low, goes_header}
use Rattle.loadsteps.proofs.Says.{Says, says_goes, says_refused, says_ends}

-- a block that the stream s begins with is refused by k, as Req 11 wants it
abbrev pub Refuses : ℕ → ℕ → ℕ → List ℕ → List ℕ → ℕ → Type 0
Refuses l t o s m k =
    Says l (at Start 0 t o) s m (Refused k (t + length (held_of (parts.Refused k) s)) (o + shown_at k s)) (puts (address_of s) (held_of (parts.Refused k) s) m)

-- 27, 28 or 29
early : (l t o : ℕ) (s bs m : List ℕ) (k sum x : ℕ) → ltb k 30 ≡ true → (k ≡ 30 → ⊥) → shown_at k s ≡ x
    → Goes l (at Start 0 t o) s m (at (phases.Refused k) sum t (o + x)) bs m → Refuses l t o s m k
unfolding puts
early l t o s bs m k sum x h n e g = rw (h, e, add-zero t) (says_goes g (says_refused l k sum t (o + x) bs m n))

-- 30, with the data ds of the block
pub short : (l t o : ℕ) (s ds m : List ℕ) (p : Phase) (sum : ℕ) → decided_by (role_of p) ≡ false → data_of s ≡ ds
    → Goes l (at Start 0 t o) s m (at p sum (t + length ds) (o + length s)) [] (puts (address_of s) ds m) → Refuses l t o s m 30
unfolding shown_at
short l t o s ds m p sum h e g = rw e (says_goes g (says_ends l p sum (t + length ds) (o + length s) (puts (address_of s) ds m) h))

-- 31
pub bad_sum : (l t o : ℕ) (s ds bs m : List ℕ) (sum : ℕ) → data_of s ≡ ds
    → Goes l (at Start 0 t o) s m (at (phases.Refused 31) sum (t + length ds) (o + count_of s)) bs (puts (address_of s) ds m) → Refuses l t o s m 31
unfolding shown_at
bad_sum l t o s ds bs m sum e g =
    rw e (says_goes g (says_refused l 31 sum (t + length ds) (o + count_of s) bs (puts (address_of s) ds m) (λ f. omega arith)))

-- refused in the header
module _ (l t o : ℕ) (m : List ℕ) where
  pub refuses-first : (b : ℕ) (s : List ℕ) → (b ≡ 0 → ⊥) → (b ≡ 1 → ⊥) → Refuses l t o (b ∷ s) m 27
  unfolding after_start shown_at
  refuses-first b s z n =
      early l t o (b ∷ s) s m 27 (0 + b) 0 refl (λ f. omega arith) (rw (ne_eqb b 1 n))
      (goes_byte l Start (phases.Refused 27) 0 t o b s m refl refl (rw (ne_eqb b 0 z, ne_eqb b 1 n)))

  pub refuses-second : (b : ℕ) (s : List ℕ) → (b ≡ 0 → ⊥) → Refuses l t o (1 ∷ b ∷ s) m 27
  unfolding after_one shown_at
  refuses-second b s z =
      early l t o (1 ∷ b ∷ s) s m 27 (1 + b) 1 refl (λ f. omega arith) refl
      (rw (← add-zero (o + 1)) (goes_both (goes_one l 0 t o m (b ∷ s)) (goes_byte l Zero (phases.Refused 27) 1 t (o + 1) b s m refl refl (rw (ne_eqb b 0 z)))))

  pub refuses-count : (c d : ℕ) (s : List ℕ) → c + 256 * d < 6 → Refuses l t o (1 ∷ 0 ∷ c ∷ d ∷ s) m 28
  unfolding after_count shown_at
  refuses-count c d s h =
      early l t o (1 ∷ 0 ∷ c ∷ d ∷ s) s m 28 (1 + c + d) 3 refl (λ f. omega arith) refl
      (rw (← add-zero (o + 3))
      (goes_both (goes_low l 0 t o m c (d ∷ s))
      (goes_byte l (CountHigh c) (phases.Refused 28) (1 + c) t (o + 3) d s m refl refl (rw (lt-ltb (c + 256 * d) 6 h)))))

  pub refuses_address : (c d a b : ℕ) (s : List ℕ) → 6 ≤ c + 256 * d → (c + 256 * d - 6 ≡ 0 → ⊥) → l < a + 256 * b + (c + 256 * d - 6)
      → Refuses l t o (1 ∷ 0 ∷ c ∷ d ∷ a ∷ b ∷ s) m 29
  unfolding after_header shown_at
  refuses_address c d a b s h z k =
      let n = c + 256 * d - 6 in
      early l t o (1 ∷ 0 ∷ c ∷ d ∷ a ∷ b ∷ s) s m 29 (1 + c + d + a + b) 5 refl (λ f. omega arith) refl
      (rw (← add-zero (o + 5))
      (goes_header l 0 t o m c d a b s (phases.Refused 29) h (rw (ne_eqb n 0 z, lt-ltb l (a + 256 * b + n) k))))
