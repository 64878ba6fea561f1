-- A status word and its kind. `kind_of` asks in turn for each kind's number, or for its two: a number that is one of them computes; and a
-- number that is known to be none of a kind's is left with the other three kinds. So the test of a kind is the test of its numbers.
-- Assumes nothing.
use Prim.Native.Nat.{ℕ}
use mathlib.Core.Path.{◌≡◌, refl}
use mathlib.Core.Bool.{Bool, true, false, cond}
use lib.Dec.{eqb}
use borrow.Author.Tests.{ne_eqb, eqb-true, eqb-false}
use Rattle.meaning.specs.declared.Kind.{Kind}
use Rattle.meaning.specs.declared.Kind.TheVariants.{Tentative, Empty, Permanent, End, Unknown}
use Rattle.meaning.specs.Kinds.{tentative_status, empty_status, permanent_status, protected_status, end_status, kind_of}
use Rattle.meaning.specs.Kinds.{is_tentative, is_empty, is_permanent, is_end}

pub tentative-is : (x : ℕ) → x ≡ tentative_status → is_tentative (kind_of x) ≡ true
unfolding kind_of
tentative-is x e = rw e

pub empty-is : (x : ℕ) → x ≡ empty_status → is_empty (kind_of x) ≡ true
unfolding kind_of
empty-is x e = rw e

pub permanent-is : (x : ℕ) → x ≡ permanent_status → is_permanent (kind_of x) ≡ true
unfolding kind_of
permanent-is x e = rw e

pub protected-is : (x : ℕ) → x ≡ protected_status → is_permanent (kind_of x) ≡ true
unfolding kind_of
protected-is x e = rw e

pub end_is : (x : ℕ) → x ≡ end_status → is_end (kind_of x) ≡ true
unfolding kind_of
end_is x e = rw e

-- what is left without a kind's own number, by the answers of the other three tests
other_tentative : (a b c : Bool) → is_tentative (cond a Empty (cond b Permanent (cond c End Unknown))) ≡ false
other_tentative true b c = refl
other_tentative false true c = refl
other_tentative false false true = refl
other_tentative false false false = refl

other_empty : (a b c : Bool) → is_empty (cond a Tentative (cond b Permanent (cond c End Unknown))) ≡ false
other_empty true b c = refl
other_empty false true c = refl
other_empty false false true = refl
other_empty false false false = refl

other_permanent : (a b c : Bool) → is_permanent (cond a Tentative (cond b Empty (cond c End Unknown))) ≡ false
other_permanent true b c = refl
other_permanent false true c = refl
other_permanent false false true = refl
other_permanent false false false = refl

other_end : (a b c : Bool) → is_end (cond a Tentative (cond b Empty (cond c Permanent Unknown))) ≡ false
other_end true b c = refl
other_end false true c = refl
other_end false false true = refl
other_end false false false = refl

pub tentative-not : (x : ℕ) → (x ≡ tentative_status → ⊥) → is_tentative (kind_of x) ≡ false
unfolding kind_of
tentative-not x h = rw (ne_eqb x tentative_status h, other_tentative)

pub empty-not : (x : ℕ) → (x ≡ empty_status → ⊥) → is_empty (kind_of x) ≡ false
unfolding kind_of
empty-not x h = rw (ne_eqb x empty_status h, other_empty)

pub permanent-not : (x : ℕ) → (x ≡ permanent_status → ⊥) → (x ≡ protected_status → ⊥) → is_permanent (kind_of x) ≡ false
unfolding kind_of
permanent-not x h g = rw (ne_eqb x permanent_status h, ne_eqb x protected_status g, other_permanent)

pub end-not : (x : ℕ) → (x ≡ end_status → ⊥) → is_end (kind_of x) ≡ false
unfolding kind_of
end-not x h = rw (ne_eqb x end_status h, other_end)

-- a test of the kind that a number m decides
module _ (f : Kind → Bool) (m : ℕ) (is : (x : ℕ) → x ≡ m → f (kind_of x) ≡ true) where
  by_number : ((x : ℕ) → (x ≡ m → ⊥) → f (kind_of x) ≡ false) → (x : ℕ) → f (kind_of x) ≡ eqb x m
  by_number isnt x = go (eqb x m) refl
    where
      go : (t : Bool) → eqb x m ≡ t → f (kind_of x) ≡ t
      go true e = is x (eqb-true x m e)
      go false e = isnt x (eqb-false x m e)

pub tentative-eqb : (x : ℕ) → is_tentative (kind_of x) ≡ eqb x tentative_status
tentative-eqb = by_number is_tentative tentative_status tentative-is tentative-not

pub empty-eqb : (x : ℕ) → is_empty (kind_of x) ≡ eqb x empty_status
empty-eqb = by_number is_empty empty_status empty-is empty-not

-- once the first of its numbers is not the one, the second decides
pub protected-eqb : (x : ℕ) → (x ≡ permanent_status → ⊥) → is_permanent (kind_of x) ≡ eqb x protected_status
protected-eqb x h = go (eqb x protected_status) refl
  where
    go : (t : Bool) → eqb x protected_status ≡ t → is_permanent (kind_of x) ≡ t
    go true e = protected-is x (eqb-true x protected_status e)
    go false e = permanent-not x h (eqb-false x protected_status e)

pub end-eqb : (x : ℕ) → is_end (kind_of x) ≡ eqb x end_status
end-eqb = by_number is_end end_status end_is end-not
