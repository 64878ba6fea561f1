-- What rules 1 to 3 give where they are kept: rules 1 and 2 are numbers, and rule 3 is a walk that ends well, which together are the
-- facts of `Chained`. Assumes nothing.
use Prim.Native.Nat.{ℕ}
use mathlib.Core.Path.{◌≡◌, refl, sym, ◌∙◌}
use mathlib.Core.Bool.{false}
use mathlib.Core.List.{List}
use native.Mathlib.Omega.{arith}
use lib.ListN.{length}
use borrow.Author.Tests.{not-false}
use Rattle.meaning.specs.Words.{highest}
use Rattle.meaning.specs.Sound.{bad1, bad2, bad3, fault}
use Rattle.walks.specs.Links.{linked}
use Rattle.walks.proofs.Heads.{sized, headed}
use Rattle.walks.proofs.Linked.{bad3-walk}
use Rattle.walks.proofs.Unbroken.{unbroken}
use Rattle.chain.specs.Chained.{Chained}
use Rattle.chain.specs.Head.{size_wrong}

-- rule 1 is a rule of the length, as code tests it
pub size_is : (v : ℕ) (d : List ℕ) → bad1 v d ≡ size_wrong v (length d)
unfolding bad1 size_wrong
size_is v d = refl

-- for callers that have passed the first three tests
pub chained : (v : ℕ) (d : List ℕ) → bad1 v d ≡ false → bad2 d ≡ false → bad3 d ≡ false → Chained d
chained v d h i j =
    let s = sized v d h in
    let t = headed d i in
    record {
      whole = omega (arith, s.whole, t.within);
      few = omega (arith, s.whole, s.few);
      some = t.used;
      extra = t.few;
      links = not-false (linked (highest d) d 1) (sym (bad3-walk d) ∙ j);
    }

-- for engines, which ask for a sound directory
pub fault-chained : (v : ℕ) (d : List ℕ) → fault v d ≡ 0 → Chained d
fault-chained v d e = let u = unbroken v d e in chained v d u.size u.header u.chain
