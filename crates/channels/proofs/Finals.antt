-- A final length. A number that fits a word is a count of blocks, and then the test against the tentative length decides; any other is
-- below 0, or more than any tentative length.
use Prim.Native.Nat.{ℕ, ◌≤◌, ◌<◌}
use mathlib.Core.Path.{◌≡◌, refl}
use mathlib.Core.Bool.{Bool, true, false, cond}
use mathlib.Core.List.{List}
use mathlib.Core.Option.{Option, none, some}
use native.Mathlib.Omega.{arith}
use lib.IntN.{ℤ, pos, negsuc, nat_abs}
use Rattle.std.specs.Int.{FitsUnsignedBits}
use lib.Dec.{leb}
use borrow.Author.Tests.{leb-true, le-leb, lt-leb}
use Rattle.meaning.specs.Words.{Row, blocks}
use Rattle.meaning.specs.Answers.{refuse}
use Rattle.meaning.specs.Requests.{final_length, closed}
use Rattle.channels.specs.Closing.{final_under, final_by, closed_at}
use Rattle.std.proofs.Common.{Some, None}

pub final-within : (z : ℤ) (l n : ℕ) → FitsUnsignedBits 16 z × (n ≡ nat_abs z) → n ≤ l → Some n ≡ final_by z l
unfolding final_by final_length
final-within (pos m) l n p h = rw (p.1, le-leb m l (omega (arith, p.1)))
final-within (negsuc m) l n p h = absurd p.0

pub final_above : (z : ℤ) (l n : ℕ) → FitsUnsignedBits 16 z × (n ≡ nat_abs z) → l < n → None ≡ final_by z l
unfolding final_by final_length
final_above (pos m) l n p h = rw (lt-leb m l (omega (arith, p.1)))
final_above (negsuc m) l n p h = refl

pub final_past : (z : ℤ) (l : ℕ) → (FitsUnsignedBits 16 z → ⊥) → l ≤ 65535 → None ≡ final_by z l
unfolding final_by final_length
final_past (pos m) l f h = rw (lt-leb m l (omega (arith, f)))
final_past (negsuc m) l f h = refl

-- close, by what the final length came to
module _ (d : List ℕ) (r : Row) where
  by_option : (o : Option ℕ) (l n : ℕ) → blocks r.entry ≡ l → final_under o l ≡ Some n
      → closed d r o ≡ closed_at d r n
  unfolding closed_at
  by_option none l n e h = absurd (let z : ◌≡◌ {A = ℕ} 0 1 = cc in omega arith)
  by_option (some m) l n e h = go (leb m l) refl h
    where
      go : (t : Bool) → leb m l ≡ t → cond t (Some m) None ≡ Some n
          → closed d r (some m) ≡ closed_at d r n
      go true t h = let q : m ≡ n = cc in rw (e, t, q)
      go false t h = absurd (let z : ◌≡◌ {A = ℕ} 0 1 = cc in omega arith)

  wrong_option : (o : Option ℕ) (l : ℕ) → blocks r.entry ≡ l → final_under o l ≡ None → closed d r o ≡ refuse 16 d
  wrong_option none l e h = refl
  wrong_option (some m) l e h = go (leb m l) refl h
    where
      go : (t : Bool) → leb m l ≡ t → cond t (Some m) None ≡ None → closed d r (some m) ≡ refuse 16 d
      go true t h = absurd (let z : ◌≡◌ {A = ℕ} 0 1 = cc in omega arith)
      go false t h = rw (e, t)

  pub closed-length : (z : ℤ) (l n : ℕ) → blocks r.entry ≡ l → final_by z l ≡ Some n
      → closed d r (final_length z) ≡ closed_at d r n
  unfolding final_by
  closed-length z l n e h = by_option (final_length z) l n e h

  pub closed_wrong : (z : ℤ) (l : ℕ) → blocks r.entry ≡ l → final_by z l ≡ None → closed d r (final_length z) ≡ refuse 16 d
  unfolding final_by
  closed_wrong z l e h = wrong_option (final_length z) l e h

-- a final length that is allowed is at most the tentative length
small_option : (o : Option ℕ) (l n : ℕ) → final_under o l ≡ Some n → n ≤ l
small_option none l n h = absurd (let z : ◌≡◌ {A = ℕ} 0 1 = cc in omega arith)
small_option (some m) l n h = go (leb m l) refl h
  where
    go : (t : Bool) → leb m l ≡ t → cond t (Some m) None ≡ Some n → n ≤ l
    go true t h = let q : m ≡ n = cc in omega (arith, leb-true m l t)
    go false t h = absurd (let z : ◌≡◌ {A = ℕ} 0 1 = cc in omega arith)

pub final-small : (z : ℤ) (l n : ℕ) → final_by z l ≡ Some n → n ≤ l
unfolding final_by
final-small z l n h = small_option (final_length z) l n h
