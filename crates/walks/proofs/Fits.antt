-- Enter's choice finds an area. A first area of length at least n is there exactly when some area is that long, and some area is as
-- long as the longest; what is wanted is at most the longest, or is what was tested already. So after refusal 12 the choice is never
-- `none`, of whatever size and areas. Assumes nothing.
use Prim.Native.Nat.{ℕ, ◌≤◌}
use native.Mathlib.Omega.{arith}
use mathlib.Core.Path.{◌≡◌, refl, sym, ◌∙◌}
use mathlib.Core.Bool.{Bool, true, false, cond, ◌||◌, not, false≢true}
use mathlib.Core.Logic.{⊎_elim}
use mathlib.Core.List.{List, [], ◌∷◌, map}
use mathlib.Core.Option.{Option, none, some}
use lib.Dec.{leb}
use borrow.Author.Tests.{le-leb, lt-leb, not-true}
use Rattle.bools.proofs.Bools.{either_side}
use Rattle.meaning.specs.Sound.{any}
use Rattle.meaning.specs.Answers.{is_none}
use Rattle.meaning.specs.Enter.{Size, longest, default, wrong, exact, Area, longest_of, wanted, at_least, long_enough, first_fit, cost_after}
use Rattle.walks.proofs.Topped.{second_le}

pub fits-there : (n : ℕ) (xs : List Area) → long_enough n xs ≡ not (is_none (first_fit n xs))
unfolding long_enough any first_fit
fits-there n [] = refl
fits-there n (x ∷ xs) = go (leb n x.size) (fits-there n xs)
  where
    go : (t : Bool) → long_enough n xs ≡ not (is_none (first_fit n xs))
        → t || long_enough n xs ≡ not (is_none (cond t (some x) (first_fit n xs)))
    go true h = refl
    go false h = h

-- what is not none is some
pub some_is : {A : Type 0} (o : Option A) → is_none o ≡ false → (a : A) × (o ≡ some a)
some_is none h = absurd (false≢true (sym h))
some_is (some a) h = (a, refl)

-- the lengths of areas
abbrev pub sizes : List Area → List ℕ
sizes xs = map (λ r. r.size) xs

-- one of the areas is as long as the longest
longest-fits : (n : ℕ) (x : Area) (xs : List Area) → n ≤ longest_of (sizes (x ∷ xs)) → long_enough n (x ∷ xs) ≡ true
unfolding long_enough any longest_of
longest-fits n x [] h = rw (le-leb n x.size (omega arith))
longest-fits n x (y ∷ ys) h =
    ⊎_elim (λ l. rw (lt-leb n x.size l) (longest-fits n y ys (omega arith))) (λ l. rw (le-leb n x.size l))
    (either_side x.size n)

wanted-there : (size : Size) (xs : List Area) → long_enough (at_least size) xs ≡ true → long_enough (wanted size (sizes xs)) xs ≡ true
unfolding long_enough any wanted at_least
wanted-there size [] h = absurd (false≢true h)
wanted-there longest (x ∷ xs) h = longest-fits (longest_of (sizes (x ∷ xs))) x xs (omega arith)
wanted-there default (x ∷ xs) h =
    let s = second_le (sizes (x ∷ xs)) in
    longest-fits (wanted default (sizes (x ∷ xs))) x xs (omega arith)
wanted-there wrong (x ∷ xs) h = longest-fits 0 x xs (omega arith)
wanted-there (exact n) (x ∷ xs) h = h

pub wanted-fits : (size : Size) (xs : List Area) → long_enough (at_least size) xs ≡ true
    → (a : Area) × (first_fit (wanted size (sizes xs)) xs ≡ some a)
wanted-fits size xs h =
    let n = wanted size (sizes xs) in
    some_is (first_fit n xs) (not-true (is_none (first_fit n xs)) (sym (fits-there n xs) ∙ wanted-there size xs h))

-- a cost is 1 or 2
pub cost-some : (p : Bool) → 1 ≤ cost_after p
unfolding cost_after
cost-some true = omega arith
cost-some false = omega arith

pub cost-small : (p : Bool) → cost_after p ≤ 2
unfolding cost_after
cost-small true = omega arith
cost-small false = omega arith
