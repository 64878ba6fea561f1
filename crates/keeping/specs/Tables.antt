-- What the tables of files promise.
use Rattle.std.specs.Prelude.{ℕ, ◌+◌, ◌≤◌, ◌≡◌, Bool, true, cond, List, [], ◌∷◌, map, length, take, drop}
use Rattle.meaning.specs.Sound.{any}
use Rattle.walks.specs.Lists.{All}
use Rattle.repaired.specs.Kept.{KeptFile, kept_at, same_file}
use Rattle.keeping.specs.declared.File.{File}

abbrev pub first_in : File → ℕ
first_in f = f.first

-- what a file keeps, by the seven words of its entry in the directory
abbrev pub file_of : List ℕ → File → KeptFile
file_of d f = kept_at f.first (take 7 (drop f.at d))

-- these lie in the directory
abbrev pub Within : List ℕ → File → Type 0
Within d f = f.at + 7 ≤ length d

-- the first r rows of a table of this size list these files
pub record Listed (d : List ℕ) (files : List KeptFile) (room most : ℕ) (table : List File) (r : ℕ) : Type 0 where
  pub lists : map (file_of d) (take r table) ≡ files
  pub within : All (Within d) (take r table)
  pub size : length table ≡ room
  pub few : r ≤ most

-- the first of some files that passes a test, taken out
unfoldable pub first_out : (File → Bool) → List File → List File
first_out p [] = []
first_out p (x ∷ xs) = let r = first_out p xs in cond (p x) xs (x ∷ r)

-- what x lists in d is the same file as what y lists in w
abbrev pub alike : List ℕ → File → List ℕ → File → Bool
alike d x w y = same_file (file_of d x) (file_of w y)

-- the first that lists the same file is taken out, if there is one: the others stand behind the first place
pub record TakenFrom (d : List ℕ) (x : File) (w : List ℕ) (before after : List File) (r : Bool) : Type 0 where
  pub found : r ≡ any (alike d x w) before
  pub others : r ≡ true → drop 1 after ≡ first_out (alike d x w) before
  pub size : length after ≡ length before
