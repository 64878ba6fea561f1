-- Demand 1: any words, volume size and request may be handed in, and each request is carried out or refused by a listed number; a refusal
-- changes no word (proofs/Refusals.antt).
use Rattle.std.specs.Prelude.{ℕ, ◌≡◌, ◌⊎◌, List, [], ◌∷◌, ◌++◌}
use Rattle.meaning.specs.declared.Op.{Op}
use Rattle.meaning.specs.declared.Op.TheVariants.{Lookup, Enter, Close, Abandon, Delete, Rename, Protect, Unprotect}
use Rattle.meaning.specs.declared.Request.{Request}
use Rattle.meaning.specs.Answers.{Outcome, refusal}
use Rattle.meaning.specs.Requests.{fresh}
use Rattle.meaning.specs.Batch.{serve}

-- the faults, which every request tests first
abbrev pub faults : List ℕ
faults = 1 ∷ 2 ∷ 3 ∷ 4 ∷ 5 ∷ 6 ∷ []

-- the refusals of enter that are tested before those for room
abbrev pub before_room : List ℕ
before_room = 7 ∷ 19 ∷ 8 ∷ 9 ∷ 10 ∷ 20 ∷ []

-- the refusals that document 01's table lists for a request, and 19 and 20 of document 02, in the order in which they are tested
abbrev pub asked : Op → List ℕ
asked Lookup = 7 ∷ 13 ∷ []
asked Enter = before_room ++ 11 ∷ 12 ∷ []
asked Close = 8 ∷ 15 ∷ 16 ∷ 20 ∷ []
asked Abandon = 8 ∷ 15 ∷ []
asked Delete = 7 ∷ 19 ∷ 13 ∷ 20 ∷ []
asked Rename = 7 ∷ 19 ∷ 13 ∷ 20 ∷ 14 ∷ []
asked Protect = 7 ∷ 19 ∷ 13 ∷ []
asked Unprotect = 7 ∷ 19 ∷ 13 ∷ []

-- a number stands in a list
abbrev pub Among : ℕ → List ℕ → Type 0
Among n [] = ⊥
Among n (m ∷ ms) = (n ≡ m) ⊎ Among n ms

-- a refusal: zeros beside its number, and every word as it was
pub record Untouched (d : List ℕ) (o : Outcome) : Type 0 where
  pub answer : o.answer ≡ refusal o.answer.number
  pub words : o.words ≡ d

-- the number is 0 or listed, and where it is not 0 nothing is changed
pub record Settled (listed : List ℕ) (d : List ℕ) (o : Outcome) : Type 0 where
  pub number : (o.answer.number ≡ 0) ⊎ Among o.answer.number listed
  pub refused : (o.answer.number ≡ 0 → ⊥) → Untouched d o

-- of every request, words and V; and of a fresh start
pub record Demand1 (v : ℕ) (d : List ℕ) : Type 0 where
  pub requests : (q : Request) → Settled (faults ++ asked q.op) d (serve v d q)
  pub starts : (extra : ℕ) → Settled (1 ∷ 2 ∷ []) d (fresh v d extra)
