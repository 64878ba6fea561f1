-- What the finder of a segment promises: the first row that is looked for, as a place.
use Rattle.std.specs.Prelude.{ℕ, ◌+◌, ◌≤◌, ◌≡◌, List, get_or, Option, Some, None}
use Rattle.std.proofs.Math.Option as maybe
use Rattle.std.proofs.Math.Option.{none, some}
use Rattle.meaning.specs.Words.{Row, status_word, blocks, date_of, slots, upto, rows_in}
use Rattle.meaning.specs.declared.Key.{Key}
use Rattle.meaning.specs.Keys.{holds}
use Rattle.meaning.specs.Answers.{find}
use Rattle.segment.specs.declared.finder.Place.{Place}

-- a row's place, with the status, length and date of its entry
abbrev pub place_of : Row → Place
place_of r =
    record {
      seg = r.seg;
      slot = r.slot;
      at = r.at;
      first = r.first;
      status = get_or r.entry status_word 0;
      length = blocks r.entry;
      date = date_of r.entry;
    }

-- what a search answers: the place of the row that it finds, if any
abbrev pub Found : Type 0
Found = Option Place

abbrev pub found_of : maybe.Option Row → Found
found_of none = None
found_of (some r) = Some (place_of r)

-- a place found has its slot of w words below word n
abbrev pub Inside : Found → ℕ → ℕ → Type 0
Inside (Some p) w n = p.at + w ≤ n
Inside None w n = Unit {0}

-- the answer r for segment s, with the words g, slots of w words, its first word at base and its first data block b: the first
-- of its rows that is looked for, in a slot that the segment holds
pub record FoundIn (r : Found) (g : List ℕ) (w s base b : ℕ) (key : Key) : Type 0 where
  pub is : r ≡ found_of (find (holds key) (rows_in w s 1 (base + 5) b (upto (slots w g))))
  pub inside : Inside r w (base + 512)
