-- Whether two rows list the same file, in the order in which code compares them. Assumes nothing.
use Prim.Native.Nat.{ℕ}
use mathlib.Core.Path.{◌≡◌, refl}
use mathlib.Core.Bool.{Bool, true, false, ◌&&◌}
use mathlib.Core.List.{List}
use lib.Dec.{eqb}
use lib.ListN.{get_or, take, drop}
use Rattle.meaning.specs.Words.{name_of, same_name, blocks, date_of}
use Rattle.repaired.specs.Kept.{same_file}
use Rattle.keeping.specs.declared.File.{File}
use Rattle.keeping.specs.Tables.{alike}

-- the first of five tests put last
turned : (a b c d e : Bool) → (((a && b) && c) && d) && e ≡ b && c && d && e && a
turned true true true true true = refl
turned true true true true false = refl
turned true true true false e = refl
turned true true false d e = refl
turned true false c d e = refl
turned false true true true true = refl
turned false true true true false = refl
turned false true true false e = refl
turned false true false d e = refl
turned false false c d e = refl

pub alike_by : (d : List ℕ) (x : File) (w : List ℕ) (y : File) (p q : List ℕ)
    → p ≡ take 7 (drop x.at d) → q ≡ take 7 (drop y.at w)
    → (((eqb x.first y.first && eqb (get_or p 0 0) (get_or q 0 0)) && same_name (name_of p) (name_of q)) && eqb (blocks p) (blocks q))
    && eqb (date_of p) (date_of q)
    ≡ alike d x w y
unfolding same_file
alike_by d x w y p q e f = rw (← e, ← f) (turned (eqb x.first y.first) (eqb (get_or p 0 0) (get_or q 0 0)) (same_name (name_of p) (name_of q)) (eqb (blocks p) (blocks q)) (eqb (date_of p) (date_of q)))
