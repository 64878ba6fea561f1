-- Demand 2, *Kept*: each request leaves a sound directory sound for the same V, and so does a fresh start; what lookup answers
-- afterwards for the name concerned, and that for every other name it answers as before; every FILE.BAD stays; and so does a protected file
-- (document 02, Req 06), until it is unprotected (proofs/Kept.antt, proofs/Guarded.antt).
use Rattle.std.specs.Prelude.{ℕ, ◌≡◌, ◌⊎◌, true, false, List, [], ◌∷◌, ℤ, get_or, set}
use Rattle.std.proofs.Math.Option.{some}
use Rattle.meaning.specs.declared.Op.TheVariants.{Unprotect}
use Rattle.meaning.specs.declared.Name.{Name}
use Rattle.meaning.specs.declared.Key.TheVariants.{File}
use Rattle.meaning.specs.declared.Request.{Request}
use Rattle.meaning.specs.declared.Answer.{Answer}
use Rattle.meaning.specs.Kinds.{permanent_status, protected_status}
use Rattle.meaning.specs.Words.{Entry, status_word, name_of, protected, blocks, Row, rows}
use Rattle.meaning.specs.Keys.{file_bad}
use Rattle.meaning.specs.Sound.{fault}
use Rattle.meaning.specs.Answers.{Outcome, refusal, file_of, open_on}
use Rattle.meaning.specs.Requests.{legal, lookup, delete, protect, unprotect, abandon, rename, close, fresh, word_of}
use Rattle.meaning.specs.Batch.{serve, words_after}
use Rattle.walks.specs.Lists.{All}
use Rattle.laws.specs.Order.{files_of}

-- for every other name lookup answers as before
abbrev pub OthersAsBefore : ℕ → List ℕ → List ℕ → Name → Type 0
OthersAsBefore v d after name = (n : Name) → (n ≡ name → ⊥) → (lookup v after n).answer ≡ (lookup v d n).answer

-- a delete that succeeds: the file is not found any more
pub record KeptByDelete (v : ℕ) (d : List ℕ) (name : Name) : Type 0 where
  pub sound : fault v (delete v d name).words ≡ 0
  pub gone : (delete v d name).answer.number ≡ 0 → (lookup v (delete v d name).words name).answer ≡ refusal 13
  pub others : OthersAsBefore v d (delete v d name).words name

-- an abandon: every name as before
pub record KeptByAbandon (v : ℕ) (d : List ℕ) (job channel : ℕ) : Type 0 where
  pub sound : fault v (abandon v d job channel).words ≡ 0
  pub all : (n : Name) → (lookup v (abandon v d job channel).words n).answer ≡ (lookup v d n).answer

-- a rename that succeeds: the new name answers what the old one did, and the old one is not found
pub record KeptByRename (v : ℕ) (d : List ℕ) (old new : Name) : Type 0 where
  pub sound : fault v (rename v d old new).words ≡ 0
  pub given : (rename v d old new).answer.number ≡ 0 → (lookup v (rename v d old new).words new).answer ≡ (lookup v d old).answer
  pub gone : (rename v d old new).answer.number ≡ 0 → (lookup v (rename v d old new).words old).answer ≡ refusal 13
  pub others : (n : Name) → (n ≡ old → ⊥) → (n ≡ new → ⊥) → (lookup v (rename v d old new).words n).answer ≡ (lookup v d n).answer

-- a row, but for its entry's status
abbrev pub with_status : Row → ℕ → Row
with_status r status = record { seg = r.seg; slot = r.slot; at = r.at; first = r.first; entry = set r.entry status_word status }

-- a protect or an unprotect, whose outcome is o: every name as before; where it succeeds its file has the status, and is the same but for
-- that; and where the file has the status already nothing is changed
pub record KeptByStatus (v : ℕ) (d : List ℕ) (name : Name) (status : ℕ) (o : Outcome) : Type 0 where
  pub sound : fault v o.words ≡ 0
  pub all : (n : Name) → (lookup v o.words n).answer ≡ (lookup v d n).answer
  pub stated : (r : Row) → file_of d name ≡ some r → o.answer.number ≡ 0 → file_of o.words name ≡ some (with_status r status)
  pub already : (r : Row) → file_of d name ≡ some r → get_or r.entry status_word 0 ≡ status → o.words ≡ d

-- somewhere among these rows stands this entry, with this first block
abbrev pub Present : List Row → ℕ → Entry → Type 0
Present [] first e = ⊥
Present (r ∷ rs) first e = ((r.first ≡ first) × (r.entry ≡ e)) ⊎ Present rs first e

-- a close that succeeds makes the file of its tentative entry's name: it stands where the close answered (specs/Points.antt); and where the
-- name is legal and not FILE.BAD, of which lookup finds the first, lookup answers just that; every other name is as before
pub record KeptByClose (v : ℕ) (d : List ℕ) (job channel : ℕ) (final : ℤ) : Type 0 where
  pub sound : fault v (close v d job channel final).words ≡ 0
  pub made : (r : Row) → open_on d (word_of job channel) ≡ some r → (close v d job channel final).answer.number ≡ 0
      → legal (name_of r.entry) ≡ true → (name_of r.entry ≡ file_bad → ⊥)
      → (lookup v (close v d job channel final).words (name_of r.entry)).answer ≡ (close v d job channel final).answer
  pub others : (r : Row) → open_on d (word_of job channel) ≡ some r
      → OthersAsBefore v d (close v d job channel final).words (name_of r.entry)

-- a fresh start that succeeds: no name is found
pub record KeptByFresh (v : ℕ) (after : List ℕ) : Type 0 where
  pub sound : fault v after ≡ 0
  pub none : (n : Name) → legal n ≡ true → (lookup v after n).answer ≡ refusal 13
  pub illegal : (n : Name) → legal n ≡ false → (lookup v after n).answer ≡ refusal 7

-- each of the first rows stands among the second ones, one for one and in the same order: the same words from the same block on, in
-- whatever slot
abbrev pub AllStay : List Row → List Row → Type 0
AllStay [] ss = Unit {0}
AllStay (r ∷ rs) [] = ⊥
AllStay (r ∷ rs) (s ∷ ss) = ((r.first ≡ s.first) × (r.entry ≡ s.entry) × AllStay rs ss) ⊎ AllStay (r ∷ rs) ss

-- every FILE.BAD stays, and with it the blocks that it covers
abbrev pub BadStays : List ℕ → List ℕ → Type 0
BadStays d after = AllStay (files_of d file_bad) (files_of after file_bad)

-- two answers of lookup tell the same of a file, but for where it is
pub record SameFile (a b : Answer) : Type 0 where
  pub number : a.number ≡ b.number
  pub first : a.first ≡ b.first
  pub length : a.length ≡ b.length
  pub date : a.date ≡ b.date

-- a request is to unprotect the file of this name
abbrev pub Unprotects : Name → Request → Type 0
Unprotects n q = (q.op ≡ Unprotect) × (q.name ≡ n)

-- after some requests a file still stands, with the same words, and so the same status, length and date, from the same block on; and lookup
-- answers it as before, though an enter may have moved it to another slot, unless it is a FILE.BAD, of which lookup finds the first
pub record StillThere (v : ℕ) (d : List ℕ) (qs : List Request) (first : ℕ) (e : Entry) : Type 0 where
  pub present : Present (rows (words_after v d qs)) first e
  pub answer : (name_of e ≡ file_bad → ⊥) → SameFile (lookup v (words_after v d qs) (name_of e)).answer (lookup v d (name_of e)).answer

-- a protected file stays through any requests, none of which unprotects it
abbrev pub ProtectedStays : ℕ → List ℕ → Type 0
ProtectedStays v d =
    (qs : List Request) (first : ℕ) (e : Entry) → Present (rows d) first e → protected e ≡ true
    → All (λ (q : Request). Unprotects (name_of e) q → ⊥) qs → StillThere v d qs first e

-- each on a sound directory; every request of a batch, enter too; and a fresh start that succeeds, on any words
pub record Kept (v : ℕ) : Type 0 where
  pub deletes : (d : List ℕ) → fault v d ≡ 0 → (name : Name) → KeptByDelete v d name
  pub abandons : (d : List ℕ) → fault v d ≡ 0 → (job channel : ℕ) → KeptByAbandon v d job channel
  pub renames : (d : List ℕ) → fault v d ≡ 0 → (old new : Name) → KeptByRename v d old new
  pub protects : (d : List ℕ) → fault v d ≡ 0 → (name : Name) → KeptByStatus v d name protected_status (protect v d name)
  pub unprotects : (d : List ℕ) → fault v d ≡ 0 → (name : Name) → KeptByStatus v d name permanent_status (unprotect v d name)
  pub closes : (d : List ℕ) → fault v d ≡ 0 → (job channel : ℕ) (final : ℤ) → KeptByClose v d job channel final
  pub requests : (d : List ℕ) → fault v d ≡ 0 → (q : Request) → fault v (serve v d q).words ≡ 0
  pub bads : (d : List ℕ) → fault v d ≡ 0 → (q : Request) → BadStays d (serve v d q).words
  pub guarded : (d : List ℕ) → fault v d ≡ 0 → ProtectedStays v d
  pub starts : (d : List ℕ) (extra : ℕ) → (fresh v d extra).answer.number ≡ 0 → KeptByFresh v (fresh v d extra).words
