-- The fault's number as code finds it: one test after the other, with rules 4 and 5 in one number. By the cases of the six tests'
-- answers it is the meaning's. Assumes nothing.
use Prim.Native.Nat.{ℕ}
use mathlib.Core.Path.{◌≡◌, refl}
use mathlib.Core.Bool.{Bool, true, false, cond}
use mathlib.Core.List.{List}
use lib.Dec.{eqb}
use Rattle.meaning.specs.Sound.{bad1, bad2, bad3, bad4, bad5, bad6, rule, fault}
use Rattle.chain.specs.Measure.{measure_of}

-- the first rule that is broken, by the answers of six tests
abbrev first : Bool → Bool → Bool → Bool → Bool → Bool → ℕ
first a b c x y z =
    rule 1 a λ _.
    rule 2 b λ _.
    rule 3 c λ _.
    rule 4 x λ _.
    rule 5 y λ _.
    rule 6 z λ _.
    0

-- the same as code finds it: m is the number of rule 4 or 5, or 0
abbrev pub fault_by : Bool → Bool → Bool → ℕ → Bool → ℕ
fault_by a b c m z = cond a 1 (cond b 2 (cond c 3 (cond (eqb m 0) (cond z 6 0) m)))

by_tests : (a b c x y z : Bool) → fault_by a b c (cond x 4 (cond y 5 0)) z ≡ first a b c x y z
by_tests true b c x y z = refl
by_tests false true c x y z = refl
by_tests false false true x y z = refl
by_tests false false false true y z = refl
by_tests false false false false true z = refl
by_tests false false false false false true = refl
by_tests false false false false false false = refl

-- for the check of all rules
pub fault-is : (v : ℕ) (d : List ℕ) → fault_by (bad1 v d) (bad2 d) (bad3 d) (measure_of v d) (bad6 d) ≡ fault v d
unfolding fault measure_of
fault-is v d = by_tests (bad1 v d) (bad2 d) (bad3 d) (bad4 d) (bad5 v d) (bad6 d)
