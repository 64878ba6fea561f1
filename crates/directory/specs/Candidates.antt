-- Rule 6, first pass: the entries that have a key, and the list of their places. No others can clash.
use Rattle.std.specs.Prelude.{ℕ, ◌+◌, ◌*◌, ◌-◌, ◌≤◌, ◌≡◌, Bool, true, false, cond, List, [], ◌∷◌, ◌++◌, length, take}
use Rattle.std.proofs.Math.Option.{Option, none, some}
use Rattle.meaning.specs.declared.Key.{Key}
use Rattle.meaning.specs.Words.{Entry, slot_words, entries, chain}
use Rattle.meaning.specs.Keys.{key_of}

-- an entry has a key
abbrev pub is_some : Option Key → Bool
is_some none = false
is_some (some k) = true

unfoldable pub has_key : Entry → Bool
has_key e = is_some (key_of e)

unfoldable pub candidates : List Entry → List Entry
candidates [] = []
candidates (e ∷ es) = let r = candidates es in cond (has_key e) (e ∷ r) r

-- the places of those that have a key, of entries of w words each that stand one after the other from word p on
unfoldable pub places_of : ℕ → ℕ → List Entry → List ℕ
places_of w p [] = []
places_of w p (e ∷ es) = let r = places_of w (p + w) es in cond (has_key e) (p ∷ r) r

-- the same of a directory's segments, one after the other
unfoldable pub places_in : List ℕ → List ℕ → List ℕ
places_in d [] = []
places_in d (s ∷ ss) = places_of (slot_words d) (512 * (s - 1) + 5) (entries d s) ++ places_in d ss

-- the list is the first n words of a table ps: at most a place for each slot of 31 segments of 72 slots. Now it is the first r of
-- the table after, at most m more: the places qs have come at its end
pub record Grown (ps : List ℕ) (n : ℕ) (after : List ℕ) (r m : ℕ) (qs : List ℕ) : Type 0 where
  pub long : length after ≡ 2233
  pub grown : r ≤ n + m
  pub same : take r after ≡ take n ps ++ qs

-- all entries that have a key are listed
pub record AllListed (d ps : List ℕ) (n : ℕ) : Type 0 where
  pub long : length ps ≡ 2233
  pub few : n ≤ 2232
  pub same : take n ps ≡ places_in d (chain d)
