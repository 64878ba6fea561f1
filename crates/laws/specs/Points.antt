-- Document 02, Req 08, where the entry is: the entry at the answer's segment and slot, in the words after the request, is the entry concerned,
-- with the answer's first block, length and date (proofs/Pointed.antt).
use Rattle.std.specs.Prelude.{ℕ, ◌≡◌, List, set}
use Rattle.std.proofs.Math.Option.{some}
use Rattle.meaning.specs.declared.Op.{Op}
use Rattle.meaning.specs.declared.Op.TheVariants.{Lookup, Enter, Close, Abandon, Delete, Rename, Protect, Unprotect}
use Rattle.meaning.specs.declared.Kind.TheVariants.{Empty}
use Rattle.meaning.specs.declared.Key.TheVariants.{File, Open}
use Rattle.meaning.specs.declared.Request.{Request}
use Rattle.meaning.specs.declared.Answer.{Answer}
use Rattle.meaning.specs.Kinds.{empty_status, permanent_status, protected_status}
use Rattle.meaning.specs.Words.{Entry, status_word, kind, name_of, blocks, date_of}
use Rattle.meaning.specs.Keys.{key_of}
use Rattle.meaning.specs.Answers.{file_of, open_on}
use Rattle.meaning.specs.Requests.{word_of, fresh}
use Rattle.meaning.specs.Batch.{serve}
use Rattle.rules.specs.Standing.{StandsAt}
use Rattle.laws.specs.Order.{OnFound}

-- in these words an answer points at an entry of which P holds
pub record Points (words : List ℕ) (a : Answer) (P : Entry → Type 0) : Type 0 where
  pub entry : Entry
  pub stands : StandsAt words a.segment a.slot a.first entry
  pub length : blocks entry ≡ a.length
  pub date : date_of entry ≡ a.date
  pub concerned : P entry

-- the entry that a request on the words d is about, as it is afterwards: a file or an open file by its key, or the entry that was found with
-- another status and no other word changed
abbrev pub Concerned : Op → List ℕ → Request → Entry → Type 0
Concerned Lookup d q e = key_of e ≡ some (File q.name)
Concerned Enter d q e = (key_of e ≡ some (Open (word_of q.job q.channel))) × (name_of e ≡ q.name)
Concerned Close d q e = OnFound (open_on d (word_of q.job q.channel)) λ r. key_of e ≡ some (File (name_of r.entry))
Concerned Abandon d q e = OnFound (open_on d (word_of q.job q.channel)) λ r. e ≡ set r.entry status_word empty_status
Concerned Delete d q e = OnFound (file_of d q.name) λ r. e ≡ set r.entry status_word empty_status
Concerned Rename d q e = key_of e ≡ some (File q.new_name)
Concerned Protect d q e = OnFound (file_of d q.name) λ r. e ≡ set r.entry status_word protected_status
Concerned Unprotect d q e = OnFound (file_of d q.name) λ r. e ≡ set r.entry status_word permanent_status

-- of every request that succeeds, on any words; and of a fresh start, whose entry is its area
pub record Pointed (v : ℕ) (d : List ℕ) : Type 0 where
  pub requests : (q : Request) → (serve v d q).answer.number ≡ 0
      → Points (serve v d q).words (serve v d q).answer (Concerned q.op d q)
  pub starts : (extra : ℕ) → (fresh v d extra).answer.number ≡ 0
      → Points (fresh v d extra).words (fresh v d extra).answer (λ e. kind e ≡ Empty)
