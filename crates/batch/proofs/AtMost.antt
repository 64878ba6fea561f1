-- Of eight, the first n are the first min n 8: where n is more than eight, both are all. Assumes nothing.
use Prim.Native.Nat.{ℕ, ◌≤◌, min}
use native.Mathlib.Omega.{arith}
use mathlib.Core.Path.{◌≡◌, refl, sym, ◌∙◌}
use mathlib.Core.Bool.{Bool, true, false}
use mathlib.Core.List.{List}
use lib.Dec.{leb}
use lib.ListN.{length, take, drop, drop_of_length-le}
use lib.Seq.{take_all}
use borrow.Author.Tests.{leb-true, leb-false}

module _ {X : Type 0} (xs : List X) (n k : ℕ) (long : length xs ≡ 8) (is : k ≡ min n 8) where
  pub few : k ≤ 8
  few = omega arith

  pub firsts : take k xs ≡ take n xs
  firsts = go (leb n 8) refl
    where
      go : (t : Bool) → leb n 8 ≡ t → take k xs ≡ take n xs
      go true e = let h = leb-true n 8 e in let q : k ≡ n = omega arith in rw q
      go false e =
          let h = leb-false n 8 e in
          take_all k xs (omega arith) ∙ sym (take_all n xs (omega arith))

  pub rests : drop k xs ≡ drop n xs
  rests = go (leb n 8) refl
    where
      go : (t : Bool) → leb n 8 ≡ t → drop k xs ≡ drop n xs
      go true e = let h = leb-true n 8 e in let q : k ≡ n = omega arith in rw q
      go false e =
          let h = leb-false n 8 e in
          let a : length xs ≤ k = omega arith in
          let b : length xs ≤ n = omega arith in
          drop_of_length-le xs a ∙ sym (drop_of_length-le xs b)
