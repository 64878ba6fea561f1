-- Lists, place by place. The i-th segment of the chain is the one that i links reach; and no element of a list passes a test
-- exactly when the test fails at each place, of a chain at each visit. Assumes nothing.
use Prim.Native.Nat.{ℕ, zero, suc, ◌-◌, ◌≤◌, ◌<◌, suc-le-suc}
use native.Mathlib.Nat.{le_of_suc-le-suc, not-suc-le-zero}
use native.Mathlib.Omega.{arith}
use mathlib.Core.Path.{◌≡◌, refl, ap}
use mathlib.Core.Bool.{Bool, false}
use mathlib.Core.List.{List, [], ◌∷◌}
use lib.ListN.{length, get_or}
use Rattle.meaning.specs.Words.{segment, link_of, chain_from, reached}
use Rattle.meaning.specs.Sound.{any}
use Rattle.bools.proofs.Bools.{neither}

-- the segment that segment s links to
abbrev pub next : List ℕ → ℕ → ℕ
next d s = link_of (segment d s)

-- the chain as code follows it, n segments of it
pub chain_step : (n : ℕ) (d : List ℕ) (s : ℕ) → 0 < n → chain_from n d s ≡ s ∷ chain_from (n - 1) d (next d s)
unfolding chain_from
chain_step zero d s h = absurd (omega arith)
chain_step (suc n) d s h =
    let e : suc n - 1 ≡ n = omega arith in
    rw e

pub chain-over : (n : ℕ) (d : List ℕ) (s : ℕ) → n ≤ 0 → chain_from n d s ≡ []
unfolding chain_from
chain-over zero d s h = refl
chain-over (suc n) d s h = absurd (omega arith)

pub chain_length : (n : ℕ) (d : List ℕ) (s : ℕ) → length (chain_from n d s) ≡ n
unfolding chain_from
chain_length zero d s = refl
chain_length (suc n) d s = ap suc (chain_length n d (next d s))

pub chain-at : (n : ℕ) (d : List ℕ) (s i : ℕ) → i < n → get_or (chain_from n d s) i 0 ≡ reached i d s
unfolding chain_from reached
chain-at zero d s i l = absurd (not-suc-le-zero l)
chain-at (suc n) d s zero l = refl
chain-at (suc n) d s (suc i) l = chain-at n d (next d s) i (le_of_suc-le-suc l)

-- no element passes a test: it fails at each place
module _ {A : Type 0} (p : A → Bool) where
  pub any_none : (xs : List A) (z : A) → any p xs ≡ false → (i : ℕ) → i < length xs → p (get_or xs i z) ≡ false
  unfolding any
  any_none [] z h i l = absurd (not-suc-le-zero l)
  any_none (x ∷ xs) z h zero l = (neither (p x) (any p xs) h).0
  any_none (x ∷ xs) z h (suc i) l = any_none xs z (neither (p x) (any p xs) h).1 i (le_of_suc-le-suc l)

  pub none_any : (xs : List A) (z : A) → ((i : ℕ) → i < length xs → p (get_or xs i z) ≡ false) → any p xs ≡ false
  unfolding any
  none_any [] z f = refl
  none_any (x ∷ xs) z f = rw (f 0 (omega arith), none_any xs z (λ i l. f (suc i) (suc-le-suc l)))

-- the same of a chain, visit by visit
module _ (p : ℕ → Bool) (n : ℕ) (d : List ℕ) (s : ℕ) where
  pub any-visit : any p (chain_from n d s) ≡ false → (i : ℕ) → i < n → p (reached i d s) ≡ false
  any-visit h i l = rw chain-at at (any_none p (chain_from n d s) 0 h i (rw chain_length l))

  pub visit-any : ((i : ℕ) → i < n → p (reached i d s) ≡ false) → any p (chain_from n d s) ≡ false
  visit-any f =
      none_any p (chain_from n d s) 0
      (λ i l. let m : i < n = rw chain_length at l in rw chain-at (f i m))
