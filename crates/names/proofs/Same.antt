-- Byte strings compared from the front: what is left of the two is the same exactly where the two are, a byte that differs decides, and
-- strings of different length differ somewhere. Strings that are the same are equal lists, and equal lists are the same. Assumes nothing.
use Prim.Native.Nat.{ℕ, suc, ◌+◌, ◌≤◌, ◌<◌}
use mathlib.Core.Path.{◌≡◌, refl, ap}
use mathlib.Core.Bool.{Bool, true, false, ◌&&◌, false≢true}
use mathlib.Core.List.{List, [], ◌∷◌}
use native.Mathlib.Numerals.{add-one}
use lib.ListN.{length, get_or, drop, drop_of_length-le}
use lib.Seq.{drop-cons}
use lib.Dec.{eqb}
use borrow.Author.Tests.{eq-eqb, ne_eqb, eqb-true}
use Rattle.bools.proofs.Bools.{both}
use Rattle.names.specs.Text.{same_bytes}

module _ (x y : List ℕ) (i : ℕ) (h : i < length x) (g : i < length y) where
  same_step : same_bytes (drop i x) (drop i y) ≡ eqb (get_or x i 0) (get_or y i 0) && same_bytes (drop (i + 1) x) (drop (i + 1) y)
  unfolding same_bytes
  same_step = rw (add-one i, drop-cons x i 0 h, drop-cons y i 0 g)

  pub same_differ : (get_or x i 0 ≡ get_or y i 0 → ⊥) → same_bytes (drop i x) (drop i y) ≡ false
  same_differ d = rw (same_step, ne_eqb (get_or x i 0) (get_or y i 0) d)

  pub same_agree : get_or x i 0 ≡ get_or y i 0 → same_bytes (drop i x) (drop i y) ≡ same_bytes (drop (i + 1) x) (drop (i + 1) y)
  same_agree e = rw (same_step, eq-eqb (get_or x i 0) (get_or y i 0) e)

pub same_ended : (x y : List ℕ) (i : ℕ) → length x ≤ i → length y ≤ i → same_bytes (drop i x) (drop i y) ≡ true
unfolding same_bytes
same_ended x y i h g = rw (drop_of_length-le x h, drop_of_length-le y g)

and-false : (t : Bool) → t && false ≡ false
and-false true = refl
and-false false = refl

pub same-lengths : (x y : List ℕ) → (length x ≡ length y → ⊥) → same_bytes x y ≡ false
unfolding same_bytes
same-lengths [] [] h = absurd (h refl)
same-lengths [] (b ∷ ys) h = refl
same-lengths (a ∷ xs) [] h = refl
same-lengths (a ∷ xs) (b ∷ ys) h = rw (same-lengths xs ys (λ e. h (ap suc e)), and-false (eqb a b))

pub same_self : (x : List ℕ) → same_bytes x x ≡ true
unfolding same_bytes
same_self [] = refl
same_self (a ∷ xs) = rw (eq-eqb a a refl) (same_self xs)

pub same_equal : (x y : List ℕ) → same_bytes x y ≡ true → x ≡ y
unfolding same_bytes
same_equal [] [] h = refl
same_equal [] (b ∷ ys) h = absurd (false≢true h)
same_equal (a ∷ xs) [] h = absurd (false≢true h)
same_equal (a ∷ xs) (b ∷ ys) h =
    let p = both (eqb a b) (same_bytes xs ys) h in
    rw (eqb-true a b p.0, same_equal xs ys p.1)
