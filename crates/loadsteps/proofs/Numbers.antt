-- Each stream that begins with no zero is a right block or a refused one, by Req 10's tests; and the reader comes to the same (`Comes`). Here are the
-- streams that don't reach a block's data: the tests that are passed are put aside, and the first that is not gives the number, or the bytes end.
use Prim.Native.Nat.{ℕ, ◌+◌, ◌*◌, ◌-◌, ◌≤◌, ◌<◌}
use native.Mathlib.Nat.{add-zero}
use native.Mathlib.Omega.{arith}
use mathlib.Core.Path.{◌≡◌, refl, ◌∙◌}
use mathlib.Core.Bool.{true, false}
use mathlib.Core.List.{List, [], ◌∷◌}
use borrow.Author.Tests.{lt-ltb, le-ltb, ne_eqb}
use lib.ListN.{length, drop, drop_of_length-le}
use lib.Seq.{take-nil}
use Rattle.loads.specs.Memory.{puts}
use Rattle.loads.specs.Blocks.{pair_at, count_of, address_of, data_count, data_of, is_short, is_end_block, is_outside}
use Rattle.loads.specs.Blocks.{start_number, count_number, address_number, sum_number, first_refusal, block_number}
use Rattle.loads.proofs.Parts.{is-long}
use Rattle.loadsteps.specs.Step.{role_of, decided_by}
use Rattle.loadsteps.specs.declared.Phase.{Phase}
use Rattle.loadsteps.specs.declared.Phase.TheVariants.{Start, Zero, CountLow, CountHigh, AddressLow, AddressHigh}
use Rattle.loadsteps.specs.declared.Phase.TheVariants as phases
use Rattle.loadsteps.proofs.Runs.{at, Goes}
use Rattle.loadsteps.proofs.Headers.{goes_one, goes_zero, goes_low, goes_count, goes_address}
use Rattle.loadsteps.proofs.Heads.{Refuses, short}
use Rattle.loadsteps.proofs.Heads.{refuses-first, refuses-second, refuses-count, refuses_address}

-- what a block that the stream s begins with comes to
pub data Comes (l t o : ℕ) (s m : List ℕ) : Type 0 where
  refused : (k : ℕ) → block_number l s ≡ k → (k ≡ 0 → ⊥) → Refuses l t o s m k → Comes l t o s m
  stored : block_number l s ≡ 0 → is_end_block s ≡ false
      → Goes l (at Start 0 t o) s m (at Start 0 (t + length (data_of s)) (o + (data_count s + 7))) (drop (data_count s + 7) s) (puts (address_of s) (data_of s) m)
      → Comes l t o s m
  accepted : (sum t' o' : ℕ) (bs : List ℕ) → block_number l s ≡ 0 → is_end_block s ≡ true
      → Goes l (at Start 0 t o) s m (at (phases.Accepted (address_of s)) sum t' o') bs m → Comes l t o s m

-- the tests, as far as they are passed
by_start : (l : ℕ) (s : List ℕ)
    → block_number l (1 ∷ 0 ∷ s) ≡ first_refusal (count_number (1 ∷ 0 ∷ s)) (first_refusal (address_number l (1 ∷ 0 ∷ s)) (sum_number (1 ∷ 0 ∷ s)))
unfolding block_number start_number first_refusal
by_start l s = rw (is-long 2 (1 ∷ 0 ∷ s) (omega arith))

by_count : (l c d : ℕ) (s : List ℕ) → 6 ≤ c + 256 * d
    → block_number l (1 ∷ 0 ∷ c ∷ d ∷ s) ≡ first_refusal (address_number l (1 ∷ 0 ∷ c ∷ d ∷ s)) (sum_number (1 ∷ 0 ∷ c ∷ d ∷ s))
unfolding count_number first_refusal count_of pair_at
by_count l c d s h = by_start l (c ∷ d ∷ s) ∙ rw (is-long 4 (1 ∷ 0 ∷ c ∷ d ∷ s) (omega arith), le-ltb (c + 256 * d) 6 h)

pub by_address : (l c d a b : ℕ) (s : List ℕ) → 6 ≤ c + 256 * d → is_outside l (1 ∷ 0 ∷ c ∷ d ∷ a ∷ b ∷ s) ≡ false
    → block_number l (1 ∷ 0 ∷ c ∷ d ∷ a ∷ b ∷ s) ≡ sum_number (1 ∷ 0 ∷ c ∷ d ∷ a ∷ b ∷ s)
unfolding address_number first_refusal
by_address l c d a b s h k =
    by_count l c d (a ∷ b ∷ s) h ∙ rw (is-long 6 (1 ∷ 0 ∷ c ∷ d ∷ a ∷ b ∷ s) (omega arith), k)

-- an input that ends in the header
cut_data : (s : List ℕ) → length s ≤ 6 → data_of s ≡ []
unfolding data_of
cut_data s h = rw (drop_of_length-le s {i = 6} h) (take-nil (data_count s))

pub cut : (l t o : ℕ) (s m : List ℕ) (p : Phase) (sum : ℕ) → block_number l s ≡ 30 → length s ≤ 6 → decided_by (role_of p) ≡ false
    → Goes l (at Start 0 t o) s m (at p sum t (o + length s)) [] m → Comes l t o s m
unfolding puts
cut l t o s m p sum e h d g =
    refused 30 e (λ f. omega arith) (short l t o s [] m p sum d (cut_data s h) (rw (add-zero t) g))

module _ (l t o : ℕ) (m : List ℕ) where
  pub comes_first : (b : ℕ) (s : List ℕ) → (b ≡ 0 → ⊥) → (b ≡ 1 → ⊥) → Comes l t o (b ∷ s) m
  unfolding block_number start_number first_refusal
  comes_first b s z n = refused 27 (rw (ne_eqb b 1 n)) (λ f. omega arith) (refuses-first l t o m b s z n)

  pub comes_second : (b : ℕ) (s : List ℕ) → (b ≡ 0 → ⊥) → Comes l t o (1 ∷ b ∷ s) m
  unfolding block_number start_number first_refusal
  comes_second b s z =
      refused 27 (rw (is-long 2 (1 ∷ b ∷ s) (omega arith), ne_eqb b 0 z)) (λ f. omega arith) (refuses-second l t o m b s z)

  pub comes_one : Comes l t o (1 ∷ []) m
  unfolding block_number start_number first_refusal is_short
  comes_one = cut l t o (1 ∷ []) m Zero 1 refl (omega arith) refl (goes_one l 0 t o m [])

  pub comes_zero : Comes l t o (1 ∷ 0 ∷ []) m
  unfolding count_number first_refusal is_short
  comes_zero = cut l t o (1 ∷ 0 ∷ []) m CountLow 1 (by_start l []) (omega arith) refl (goes_zero l 0 t o m [])

  pub comes_low : (c : ℕ) → Comes l t o (1 ∷ 0 ∷ c ∷ []) m
  unfolding count_number first_refusal is_short
  comes_low c = cut l t o (1 ∷ 0 ∷ c ∷ []) m (CountHigh c) (1 + c) (by_start l (c ∷ [])) (omega arith) refl (goes_low l 0 t o m c [])

  pub comes_count : (c d : ℕ) (s : List ℕ) → c + 256 * d < 6 → Comes l t o (1 ∷ 0 ∷ c ∷ d ∷ s) m
  unfolding count_number first_refusal count_of pair_at
  comes_count c d s h =
      refused 28 (by_start l (c ∷ d ∷ s) ∙ rw (is-long 4 (1 ∷ 0 ∷ c ∷ d ∷ s) (omega arith), lt-ltb (c + 256 * d) 6 h)) (λ f. omega arith)
      (refuses-count l t o m c d s h)

  pub comes_high : (c d : ℕ) → 6 ≤ c + 256 * d → Comes l t o (1 ∷ 0 ∷ c ∷ d ∷ []) m
  unfolding address_number first_refusal is_short
  comes_high c d h =
      cut l t o (1 ∷ 0 ∷ c ∷ d ∷ []) m (AddressLow (c + 256 * d - 6)) (1 + c + d) (by_count l c d [] h) (omega arith) refl (goes_count l 0 t o m c d [] h)

  pub comes_address : (c d a : ℕ) → 6 ≤ c + 256 * d → Comes l t o (1 ∷ 0 ∷ c ∷ d ∷ a ∷ []) m
  unfolding address_number first_refusal is_short
  comes_address c d a h =
      cut l t o (1 ∷ 0 ∷ c ∷ d ∷ a ∷ []) m (AddressHigh (c + 256 * d - 6) a) (1 + c + d + a) (by_count l c d (a ∷ []) h) (omega arith) refl
      (goes_address l 0 t o m c d a [] h)

  pub comes_outside : (c d a b : ℕ) (s : List ℕ) → 6 ≤ c + 256 * d → (c + 256 * d - 6 ≡ 0 → ⊥) → l < a + 256 * b + (c + 256 * d - 6)
      → Comes l t o (1 ∷ 0 ∷ c ∷ d ∷ a ∷ b ∷ s) m
  unfolding address_number first_refusal is_outside is_end_block data_count count_of address_of pair_at
  comes_outside c d a b s h z k =
      let n : c + 256 * d ≡ 6 → ⊥ = λ e. z (omega arith) in
      refused 29
      (by_count l c d (a ∷ b ∷ s) h
      ∙ rw (
        is-long 6 (1 ∷ 0 ∷ c ∷ d ∷ a ∷ b ∷ s) (omega arith),
        ne_eqb (c + 256 * d) 6 n,
        lt-ltb l (a + 256 * b + (c + 256 * d - 6)) k,
      ))
      (λ f. omega arith) (refuses_address l t o m c d a b s h z k)
