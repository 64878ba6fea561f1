-- Demand 3: a batch of deletes, renames, closes and abandons, and of protects and unprotects (document 02, Req 06), no two naming the same
-- file or the same open channel, gives each request the same answer and ends in the same words in every order; files that none names are
-- kept, and the lengths still add up (proofs/Demand3.antt).
use Rattle.std.specs.Prelude.{ℕ, ◌-◌, ◌≡◌, ◌⊎◌, Bool, cond}
use mathlib.Core.List.{List, [], ◌∷◌, Permᴰ}
use Rattle.std.proofs.Math.Option.{Option, none, some}
use Rattle.meaning.specs.declared.Op.{Op}
use Rattle.meaning.specs.declared.Op.TheVariants.{Lookup, Enter, Close, Abandon, Delete, Rename, Protect, Unprotect}
use Rattle.meaning.specs.declared.Name.{Name}
use Rattle.meaning.specs.declared.Key.{Key}
use Rattle.meaning.specs.declared.Key.TheVariants.{File, Open}
use Rattle.meaning.specs.declared.Request.{Request}
use Rattle.meaning.specs.declared.Answer.{Answer}
use Rattle.meaning.specs.Words.{first_data, Entry, name_of, Row, rows, total, all_entries}
use Rattle.meaning.specs.Keys.{holds}
use Rattle.meaning.specs.Sound.{fault}
use Rattle.meaning.specs.Answers.{file_of, open_on}
use Rattle.meaning.specs.Requests.{good_channel, word_of}
use Rattle.meaning.specs.Batch.{words_after, answers_to}
use Rattle.walks.specs.Lists.{All, Pairwise}

-- the requests of such a batch
abbrev pub InBatch : Op → Type 0
InBatch Lookup = ⊥
InBatch Enter = ⊥
InBatch Close = Unit {0}
InBatch Abandon = Unit {0}
InBatch Delete = Unit {0}
InBatch Rename = Unit {0}
InBatch Protect = Unit {0}
InBatch Unprotect = Unit {0}

-- the tentative entry on a request's channel, where it is a channel and is open
unfoldable pub open_for : List ℕ → Request → Option Row
open_for d q = cond (good_channel q.job q.channel) (open_on d (word_of q.job q.channel)) none

-- something holds of the row that is found
abbrev pub OnFound : Option Row → (Row → Type 0) → Type 0
OnFound none P = ⊥
OnFound (some r) P = P r

-- What a request names, by its key. A delete, a protect and an unprotect name their file; a rename both its names; a close and an abandon
-- their channel, if it is open; a close also the file that its open channel is to make, even where the close is refused, and no file where
-- nothing is open on it
abbrev pub NamesBy : Op → List ℕ → Request → Key → Type 0
NamesBy Lookup d q k = ⊥
NamesBy Enter d q k = ⊥
NamesBy Close d q k = OnFound (open_for d q) λ r. (k ≡ Open (word_of q.job q.channel)) ⊎ (k ≡ File (name_of r.entry))
NamesBy Abandon d q k = OnFound (open_for d q) λ r. k ≡ Open (word_of q.job q.channel)
NamesBy Delete d q k = k ≡ File q.name
NamesBy Rename d q k = (k ≡ File q.name) ⊎ (k ≡ File q.new_name)
NamesBy Protect d q k = k ≡ File q.name
NamesBy Unprotect d q k = k ≡ File q.name

unfoldable pub Names : List ℕ → Request → Key → Type 0
Names d q k = NamesBy q.op d q k

-- no two name the same
unfoldable pub Apart : List ℕ → Request → Request → Type 0
Apart d p q = (k : Key) → Names d p k → Names d q k → ⊥

-- demand 3's batch
pub record Batch3 (d : List ℕ) (qs : List Request) : Type 0 where
  pub kinds : All (λ (q : Request). InBatch q.op) qs
  pub apart : Pairwise (Apart d) qs

-- a request with its answer
pub record Answered : Type 0 where
  pub request : Request
  pub answer : Answer

abbrev pub paired : List Request → List Answer → List Answered
paired [] rs = []
paired (q ∷ qs) [] = []
paired (q ∷ qs) (r ∷ rs) = record { request = q; answer = r } ∷ paired qs rs

-- demand 3, of the batch qs and another order rs of it: each request its same answer (the pairs are the same, permuted), and the same words
pub record Ordered (v : ℕ) (d : List ℕ) (qs rs : List Request) : Type 0 where
  pub answers : Permᴰ (paired qs (answers_to v d qs)) (paired rs (answers_to v d rs))
  pub words : words_after v d qs ≡ words_after v d rs

-- all rows whose entries pass a test
unfoldable pub every : (Entry → Bool) → List Row → List Row
every p [] = []
every p (r ∷ rs) = let f = every p rs in cond (p r.entry) (r ∷ f) f

-- all files of a name, in chain order: one at most, but for FILE.BAD
abbrev pub files_of : List ℕ → Name → List Row
files_of d n = every (holds (File n)) (rows d)

-- and of the batch alone: the directory is sound; a file that none names keeps its row: first block, length and date, and where several
-- have the name FILE.BAD each keeps its own; so does an open channel, all words of its entry; the lengths of all entries add up to the
-- volume's data blocks, V − 6 − 2N
pub record KeptByBatch (v : ℕ) (d : List ℕ) (qs : List Request) : Type 0 where
  pub sound : fault v (words_after v d qs) ≡ 0
  pub files : (n : Name) → All (λ (q : Request). Names d q (File n) → ⊥) qs → file_of (words_after v d qs) n ≡ file_of d n
  pub every_file : (n : Name) → All (λ (q : Request). Names d q (File n) → ⊥) qs → files_of (words_after v d qs) n ≡ files_of d n
  pub channels : (x : ℕ) → All (λ (q : Request). Names d q (Open x) → ⊥) qs → open_on (words_after v d qs) x ≡ open_on d x
  pub lengths : total (all_entries (words_after v d qs)) ≡ v - first_data d

-- for every sound directory, every such batch and every permutation of it
pub record Demand3 (v : ℕ) (d : List ℕ) : Type 0 where
  pub order : (qs rs : List Request) → Batch3 d qs → Permᴰ qs rs → Ordered v d qs rs
  pub kept : (qs : List Request) → Batch3 d qs → KeptByBatch v d qs
