-- Rule 6, second pass: the listed entries by number, the bucket of a key, and the latest entry of a bucket.
use Rattle.std.specs.Prelude.{ℕ, zero, suc, ◌+◌, ◌*◌, ◌-◌, ◌/◌, ◌%◌, ◌≤◌, ◌<◌, ◌≡◌, true, cond, List, [], ◌∷◌, length, get_or, take, drop, eqb}
use Rattle.std.proofs.Math.Option.{Option, none, some}
use Rattle.meaning.specs.declared.Key.{Key}
use Rattle.meaning.specs.declared.Key.TheVariants.{File, Open}
use Rattle.meaning.specs.Words.{Entry}
use Rattle.meaning.specs.Keys.{key_of}
use Rattle.directory.specs.Candidates.{has_key}

-- n places are listed in ps, of entries of w words. They are numbered from 1 at the list's end: the entry of number j
unfoldable pub numbered : List ℕ → ℕ → List ℕ → ℕ → ℕ → Entry
numbered d w ps n j = take w (drop (get_or ps (n - j) 0) d)

-- the entries of numbers 1 to k, the latest first; so they stand as in the list
unfoldable pub seen : List ℕ → ℕ → List ℕ → ℕ → ℕ → List Entry
seen d w ps n zero = []
seen d w ps n (suc k) = numbered d w ps n (suc k) ∷ seen d w ps n k

-- a place of an entry that has a key
pub record Candidate (d : List ℕ) (w p : ℕ) : Type 0 where
  pub fits : p + w ≤ length d
  pub keyed : has_key (take w (drop p d)) ≡ true

-- the list that the first pass made
pub record Places (d : List ℕ) (w : ℕ) (ps : List ℕ) (n : ℕ) : Type 0 where
  pub wide : 7 ≤ w
  pub short : length d ≤ 15872
  pub few : n ≤ 2232
  pub long : n ≤ length ps
  pub all : (k : ℕ) → k < n → Candidate d w (get_or ps k 0)

-- the bucket of three words: their sum with three large odd factors, and of that the bits 32 to 44
abbrev pub hashed : ℕ → ℕ → ℕ → ℕ
hashed a b c = (a * 34011982842585 + b * 20789424455995 + c * 30500104378819) / 4294967296 % 8192

unfoldable pub bucket_of : Key → ℕ
bucket_of (File n) = hashed n.first n.second n.extension
bucket_of (Open x) = hashed 0 0 x

-- the bucket of an entry
abbrev pub bucket_on : Option Key → ℕ
bucket_on none = 0
bucket_on (some k) = bucket_of k

-- the bucket of the entry of number j, where n places are listed in ps
unfoldable pub bucket_at : List ℕ → ℕ → List ℕ → ℕ → ℕ → ℕ
bucket_at d w ps n j = bucket_on (key_of (numbered d w ps n j))

-- the latest of the entries 1 to k in bucket b, or 0
unfoldable pub latest : List ℕ → ℕ → List ℕ → ℕ → ℕ → ℕ → ℕ
latest d w ps n b zero = 0
latest d w ps n b (suc k) = let r = latest d w ps n b k in cond (eqb (bucket_at d w ps n (suc k)) b) (suc k) r

-- from each of the entries 1 to k the table earlier leads to the latest before it in its bucket
pub record Threaded (d : List ℕ) (w : ℕ) (ps : List ℕ) (n : ℕ) (earlier : List ℕ) (k : ℕ) : Type 0 where
  pub most : k ≤ n
  pub back : (j : ℕ) → 1 ≤ j → j ≤ k → get_or earlier j 0 ≡ latest d w ps n (bucket_at d w ps n j) (j - 1)
