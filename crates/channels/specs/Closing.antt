-- What the routines behind close promise: the final length, the old file, and the entry closed at a place.
use Rattle.std.specs.Prelude.{ℕ, ◌≡◌, true, false, cond, not, List, [], ◌∷◌, length, ℤ, leb, Option, Some, None, Result, Ok, Err}
use Rattle.std.proofs.Math.Option as maybe
use Rattle.std.proofs.Math.Option.{none, some}
use Rattle.meaning.specs.declared.Refusal.{Refusal}
use Rattle.meaning.specs.declared.Refusal.TheVariants.{WrongChannel}
use Rattle.meaning.specs.declared.Name.{Name}
use Rattle.meaning.specs.Kinds.{empty_status}
use Rattle.meaning.specs.Words.{Row, slot_words, status_word, name_of, date_of}
use Rattle.meaning.specs.Answers.{Outcome, position_of, success, unless, on_row, Write, put, write, open_on}
use Rattle.meaning.specs.Requests.{good_channel, word_of, gives_way, over_protected, final_length, closing}
use Rattle.segment.specs.declared.finder.Place.{Place}
use Rattle.segment.specs.Finder.{Found, place_of, found_of, Inside}

-- the channel word of a job and a channel, or what refuses them
abbrev pub ChannelWord : Result ℕ Refusal → ℕ → ℕ → Type 0
ChannelWord (Ok word) job channel = (good_channel job channel ≡ true) × (word ≡ word_of job channel)
ChannelWord (Err e) job channel = (good_channel job channel ≡ false) × (e ≡ WrongChannel)

-- a final length is wrong, and so none, where it is no number of blocks, or more than was reserved
abbrev pub final_under : maybe.Option ℕ → ℕ → Option ℕ
final_under none longest = None
final_under (some n) longest = cond (leb n longest) (Some n) None

unfoldable pub final_by : ℤ → ℕ → Option ℕ
final_by z longest = final_under (final_length z) longest

-- the file that gives way to a new one of this name, as a search answers; and where there is one, the words of its slot lie in the directory
pub record OldFile (r : Found) (d : List ℕ) (name : Name) : Type 0 where
  pub is : r ≡ found_of (gives_way d name)
  pub inside : Inside r (slot_words d) (length d)

-- the old file's status
abbrev pub replacing_at : Found → List Write
replacing_at (Some p) = put p.at status_word empty_status ∷ []
replacing_at None = []

-- a place is that of the tentative entry on a channel word
pub record Opened (d : List ℕ) (word : ℕ) (p : Place) : Type 0 where
  pub row : Row
  pub is : open_on d word ≡ some row
  pub place : place_of row ≡ p

-- close, once nothing but a protected file of the same name can refuse it
unfoldable pub closed_at : List ℕ → Row → ℕ → Outcome
closed_at d r n =
    unless 20 (not (over_protected d (name_of r.entry))) d λ _.
    success r.first n (date_of r.entry) (position_of r) (write d (closing d r n))

unfoldable pub closed_on : List ℕ → ℕ → ℕ → Outcome
closed_on d word n = on_row 15 (open_on d word) d λ r. closed_at d r n
