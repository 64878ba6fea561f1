-- Damage that may be repaired breaks none of rules 1 to 3: the first rule that is broken gives the number, and 1 to 3 are beyond repair.
use Prim.Native.Nat.{ℕ}
use mathlib.Core.Path.{◌≡◌, refl}
use mathlib.Core.Bool.{Bool, true, false, true≢false}
use mathlib.Core.List.{List}
use Rattle.meaning.specs.Sound.{bad1, bad2, bad3, bad4, bad5, bad6, rule, fault}
use Rattle.repaired.specs.Kept.{beyond}

pub first_three : (v : ℕ) (d : List ℕ) → beyond (fault v d) ≡ false → (bad1 v d ≡ false) × (bad2 d ≡ false) × (bad3 d ≡ false)
unfolding fault beyond
first_three v d h = go (bad1 v d) (bad2 d) (bad3 d) (bad4 d) (bad5 v d) (bad6 d) h
  where
    go : (a b c e f g : Bool) → beyond (rule 1 a λ _. rule 2 b λ _. rule 3 c λ _. rule 4 e λ _. rule 5 f λ _. rule 6 g λ _. 0) ≡ false
        → (a ≡ false) × (b ≡ false) × (c ≡ false)
    go true b c e f g h = absurd (true≢false h)
    go false true c e f g h = absurd (true≢false h)
    go false false true e f g h = absurd (true≢false h)
    go false false false e f g h = (refl, refl, refl)
