-- What a request gives (document 01, "Requests"): the answer, and the words after. Refusals and success, once for all requests.
use Rattle.std.specs.Prelude.{ℕ, zero, suc, ◌+◌, ◌≡◌, Bool, true, false, cond, List, [], ◌∷◌, set}
use Rattle.std.proofs.Math.Option.{Option, none, some}
use Rattle.meaning.specs.declared.Answer.{Answer}
use Rattle.meaning.specs.declared.Position.{Position}
use Rattle.meaning.specs.declared.Name.{Name}
use Rattle.meaning.specs.declared.Key.TheVariants.{File, Open}
use Rattle.meaning.specs.Words.{Entry, protected, Row, rows}
use Rattle.meaning.specs.Keys.{holds}
use Rattle.meaning.specs.Sound.{fault}

pub record Outcome : Type 0 where
  pub answer : Answer
  pub words : List ℕ

-- what a routine promises of a request: its answer and every word after the call are the outcome's
pub record Meets (r : Answer) (after : List ℕ) (o : Outcome) : Type 0 where
  pub answer : r ≡ o.answer
  pub words : after ≡ o.words

-- a refusal: its number, and zeros
abbrev pub refusal : ℕ → Answer
refusal n = record { number = n; first = 0; length = 0; date = 0; segment = 0; slot = 0 }

-- a success: number 0, and what is known of the entry that the request is about; from document 02, Req 08, on also where it is
abbrev pub granted : ℕ → ℕ → ℕ → Position → Answer
granted first length date p =
    record { number = 0; first = first; length = length; date = date; segment = p.segment; slot = p.slot }

-- where the entry of a row is
abbrev pub position_of : Row → Position
position_of r = record { segment = r.seg; slot = r.slot }

-- a refused request changes no word
unfoldable pub refuse : ℕ → List ℕ → Outcome
refuse n d = record { answer = refusal n; words = d }

-- a success answers the entry as it stands afterwards
unfoldable pub success : ℕ → ℕ → ℕ → Position → List ℕ → Outcome
success first length date p after = record { answer = granted first length date p; words = after }

-- A request is written as its tests, one to a line, smallest number first: either the refusal, or what comes next
abbrev pub passed : ℕ → List ℕ → (Unit {0} → Outcome) → Outcome
passed zero d next = next tt
passed (suc n) d next = refuse (suc n) d

-- 1 to 6
abbrev pub if_sound : ℕ → List ℕ → (Unit {0} → Outcome) → Outcome
if_sound v d next = passed (fault v d) d next

-- refusal n unless a test holds
abbrev pub unless : ℕ → Bool → List ℕ → (Unit {0} → Outcome) → Outcome
unless n true d next = next tt
unless n false d next = refuse n d

-- refusal n unless an entry is found
abbrev pub on_row : ℕ → Option Row → List ℕ → (Row → Outcome) → Outcome
on_row n none d next = refuse n d
on_row n (some r) d next = next r

-- the first row, in chain order, whose entry passes a test
unfoldable pub find : (Entry → Bool) → List Row → Option Row
find p [] = none
find p (r ∷ rs) = let f = find p rs in cond (p r.entry) (some r) f

abbrev pub is_none : {A : Type 0} → Option A → Bool
is_none none = true
is_none (some a) = false

-- the row found, if any, is that of a protected file
abbrev pub is_protected : Option Row → Bool
is_protected none = false
is_protected (some r) = protected r.entry

-- the permanent file of a name; where several are spared, the first
unfoldable pub file_of : List ℕ → Name → Option Row
file_of d n = find (holds (File n)) (rows d)

-- the tentative entry on a channel word
unfoldable pub open_on : List ℕ → ℕ → Option Row
open_on d x = find (holds (Open x)) (rows d)

-- A change of words: of the entry that begins at a place, one word gets a value. Changes are made in order
pub record Write : Type 0 where
  pub place : ℕ
  pub word : ℕ
  pub value : ℕ

unfoldable pub write : List ℕ → List Write → List ℕ
write d [] = d
write d (x ∷ xs) = write (set d (x.place + x.word) x.value) xs

abbrev pub put : ℕ → ℕ → ℕ → Write
put place word value = record { place = place; word = word; value = value }
