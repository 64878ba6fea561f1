-- Demand 2, *Room* and *Kept* of enter: it is refused for room only when, after neighbouring free areas within each segment are joined,
-- no area is long enough (11) or no slot can be had for one (12); it leaves a sound directory sound, every file as before, and the new
-- entry where the answer says (proofs/Room.antt, proofs/EnterKept.antt).
use Rattle.std.specs.Prelude.{ℕ, ◌+◌, ◌-◌, ◌≤◌, ◌<◌, ◌≡◌, ◌⊎◌, List, [], ℤ, length, get_or, take, drop}
use Rattle.std.proofs.Math.Option.{some}
use Rattle.meaning.specs.declared.Kind.TheVariants.{Tentative, Empty}
use Rattle.meaning.specs.declared.Name.{Name}
use Rattle.meaning.specs.declared.Key.TheVariants.{Open}
use Rattle.meaning.specs.declared.Answer.{Answer}
use Rattle.meaning.specs.Words.{segments, highest, capacity, Entry, kind, name_of, blocks, date_of, entries, total, Row}
use Rattle.meaning.specs.Keys.{key_of}
use Rattle.meaning.specs.Sound.{fault}
use Rattle.meaning.specs.Answers.{Outcome, open_on}
use Rattle.meaning.specs.Requests.{word_of, lookup}
use Rattle.meaning.specs.Enter.{Size, exact, size_of, at_least, tidy, enter}
use Rattle.rules.specs.Sound.{visit}
use Rattle.laws.specs.Refusals.{before_room, Among}
use Rattle.laws.specs.Kept.{SameFile}

-- a run: n neighbouring empty entries after k others, with none before them and none after
pub record Run (es : List Entry) (k n : ℕ) : Type 0 where
  pub some : 1 ≤ n
  pub within : k + n ≤ length es
  pub empty : (i : ℕ) → i < n → kind (get_or es (k + i) []) ≡ Empty
  pub before : (k ≡ 0) ⊎ (kind (get_or es (k - 1) []) ≡ Empty → ⊥)
  pub after : (k + n ≡ length es) ⊎ (kind (get_or es (k + n) []) ≡ Empty → ⊥)

-- the joined length of a run
abbrev pub joined_length : List Entry → ℕ → ℕ → ℕ
joined_length es k n = total (take n (drop k es))

-- somewhere in the directory a run is at least m long
pub record LongRun (d : List ℕ) (m : ℕ) : Type 0 where
  pub at : ℕ
  pub used : at < highest d
  pub start : ℕ
  pub count : ℕ
  pub run : Run (entries d (visit d at)) start count
  pub long : m ≤ joined_length (entries d (visit d at)) start count

-- the slots that an entry before a run takes: a tentative entry that precedes it needs an area of its own, which is a second slot
pub record Takes (es : List Entry) (k slots : ℕ) : Type 0 where
  pub two : (1 ≤ k) × (kind (get_or es (k - 1) []) ≡ Tentative) → slots ≡ 2
  pub one : ((1 ≤ k) × (kind (get_or es (k - 1) []) ≡ Tentative) → ⊥) → slots ≡ 1

-- for such a run a slot can be had: in its segment, once that is tidied, or by opening another segment
pub record SlottedRun (d : List ℕ) (m : ℕ) : Type 0 where
  pub found : LongRun d m
  pub slots : ℕ
  pub takes : Takes (entries d (visit d found.at)) found.start slots
  pub had : (length (tidy (entries d (visit d found.at))) + slots ≤ capacity d) ⊎ (highest d < segments d)

-- of the outcome of an enter that asks for at least m blocks (1 for sizes 0 and -1), on a sound directory: 11 exactly when no run is long
-- enough; 12 exactly when one is and a slot can be had for none; both after the refusals that are tested before. What none of these numbers
-- refuses succeeds
pub record Room (d : List ℕ) (m : ℕ) (o : Outcome) : Type 0 where
  pub eleven : o.answer.number ≡ 11 → LongRun d m → ⊥
  pub twelve : o.answer.number ≡ 12 → LongRun d m × (SlottedRun d m → ⊥)
  pub success : o.answer.number ≡ 0 → SlottedRun d m
  pub only : (o.answer.number ≡ 0)
      ⊎ ((o.answer.number ≡ 11) ⊎ ((o.answer.number ≡ 12) ⊎ Among o.answer.number before_room))

-- the entry that an enter makes: tentative on the channel word x, with the name and the date that were asked for, from the first block and
-- of the length that the answer tells; for an exact size this length is that size
pub record NewEntry (words : List ℕ) (name : Name) (size : Size) (x date : ℕ) (a : Answer) : Type 0 where
  pub row : Row
  pub found : open_on words x ≡ some row
  pub key : key_of row.entry ≡ some (Open x)
  pub named : name_of row.entry ≡ name
  pub dated : date_of row.entry ≡ date
  pub first : row.first ≡ a.first
  pub length : blocks row.entry ≡ a.length
  pub sized : (n : ℕ) → size ≡ exact n → a.length ≡ n

-- of the outcome of an enter on a sound directory: it is sound, every name is answered as before, and a success makes the entry
pub record KeptByEnter (v : ℕ) (d : List ℕ) (name : Name) (size : Size) (x date : ℕ) (o : Outcome) : Type 0 where
  pub sound : fault v o.words ≡ 0
  pub files : (n : Name) → SameFile (lookup v o.words n).answer (lookup v d n).answer
  pub made : o.answer.number ≡ 0 → NewEntry o.words name size x date o.answer

-- on every sound directory
pub record EnterLaws (v : ℕ) (d : List ℕ) : Type 0 where
  pub room : (name : Name) (size : ℤ) (job channel date : ℕ) → Room d (at_least (size_of size)) (enter v d name size job channel date)
  pub kept : (name : Name) (size : ℤ) (job channel date : ℕ)
      → KeptByEnter v d name (size_of size) (word_of job channel) date (enter v d name size job channel date)
