-- A table from place i on, and what a write to that leaves: the rows before it, and those written. Assumes nothing.
use Prim.Native.Nat.{ℕ, ◌+◌, ◌-◌, ◌≤◌}
use mathlib.Core.Path.{◌≡◌, ap, ◌∙◌}
use mathlib.Core.List.{List, [], ◌++◌, append-nil}
use native.Mathlib.Omega.{arith}
use borrow.Rule.Slice.PartMut.{put_mid}
use lib.ListN.{length, take, drop, length-drop, drop_of_length-le}
use lib.Seq.{take_at, drop_at, take-add, take-length, length-take-le}

module _ {A : Type 0} (l : List A) where
  pub part-all : (i : ℕ) → take (length l - i) (drop i l) ≡ drop i l
  part-all i = rw (← length-drop i l) (take-length (drop i l))

  module _ (ys : List A) (i : ℕ) (inside : i ≤ length l) where
    abbrev after : List A
    after = put_mid i (length l - i) l ys

    written : after ≡ take i l ++ ys
    written =
        let past : drop (length l - i) (drop i l) ≡ [] = drop_of_length-le (drop i l) (omega (arith, length-drop i l)) in
        rw (past, append-nil ys)

    pub drop-put : drop i after ≡ ys
    drop-put = ap (drop i) written ∙ drop_at (take i l) ys i (length-take-le i l inside)

    pub take-put : (r : ℕ) → take (i + r) after ≡ take i l ++ take r ys
    take-put r =
        let front : take i after ≡ take i l = ap (take i) written ∙ take_at (take i l) ys i (length-take-le i l inside) in
        take-add i r after ∙ rw (front, drop-put)
