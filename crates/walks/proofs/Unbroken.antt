-- A directory without a fault breaks none of the six rules: by the cases of the six tests. Assumes nothing.
use Prim.Native.Nat.{ℕ}
use native.Mathlib.Omega.{arith}
use mathlib.Core.Path.{◌≡◌, refl}
use mathlib.Core.Bool.{Bool, true, false}
use mathlib.Core.List.{List}
use Rattle.meaning.specs.Sound.{bad1, bad2, bad3, bad4, bad5, bad6, rule, fault}

pub record Unbroken (v : ℕ) (d : List ℕ) : Type 0 where
  pub size : bad1 v d ≡ false
  pub header : bad2 d ≡ false
  pub chain : bad3 d ≡ false
  pub slots : bad4 d ≡ false
  pub blocks : bad5 v d ≡ false
  pub keys : bad6 d ≡ false

-- the number 0 is that of no broken rule
none_broken : (a b c e f g : Bool)
    → (rule 1 a λ _. rule 2 b λ _. rule 3 c λ _. rule 4 e λ _. rule 5 f λ _. rule 6 g λ _. 0) ≡ 0
    → (a ≡ false) × (b ≡ false) × (c ≡ false) × (e ≡ false) × (f ≡ false) × (g ≡ false)
none_broken true b c e f g h = absurd (omega arith)
none_broken false true c e f g h = absurd (omega arith)
none_broken false false true e f g h = absurd (omega arith)
none_broken false false false true f g h = absurd (omega arith)
none_broken false false false false true g h = absurd (omega arith)
none_broken false false false false false true h = absurd (omega arith)
none_broken false false false false false false h = (refl, refl, refl, refl, refl, refl)

pub unbroken : (v : ℕ) (d : List ℕ) → fault v d ≡ 0 → Unbroken v d
unfolding fault
unbroken v d h =
    let b = none_broken (bad1 v d) (bad2 d) (bad3 d) (bad4 d) (bad5 v d) (bad6 d) h in
    record { size = b.0; header = b.1; chain = b.2; slots = b.3; blocks = b.4; keys = b.5 }
