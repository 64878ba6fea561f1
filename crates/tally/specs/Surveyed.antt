-- What is counted of each segment, in the meaning's terms: the next free block, the moves so far, whether a segment is overfull.
use Rattle.std.specs.Prelude.{ℕ, ◌+◌, ◌-◌, ◌≤◌, ◌≡◌, Bool, cond, ◌||◌, List, length, eqb, ltb}
use Rattle.meaning.specs.Kinds.{is_tentative}
use Rattle.meaning.specs.Sound.{any}
use Rattle.meaning.specs.Words.{Entry, kind, first_of, slot_count, capacity, slots, upto}
use Rattle.squeezed.specs.Moves.{needed}
use Rattle.squeezed.specs.Squeeze.{free_up_to, places, packed_entries, moves, new_parts, overfull}
use Rattle.tally.specs.declared.survey.Survey.{Survey}
use Rattle.tally.specs.Walks.{Walkable}

-- some entry is tentative
abbrev pub any_open : List Entry → Bool
any_open es = any (λ e. is_tentative (kind e)) es

-- an entry for what is left over up to V, in the last of the segments that are left
abbrev pub last_count : ℕ → ℕ → ℕ → ℕ
last_count left q v = cond (eqb left 1) (cond (eqb q v) 0 1) 0

-- with a segment of the words g more, in slots of w words, where so many segments are left
unfoldable pub survey_after : ℕ → ℕ → ℕ → List ℕ → Survey → Survey
survey_after v w left g x =
    let b = first_of g in
    let es = upto (slots w g) in
    let q = free_up_to b x.free es in
    record {
      free = q;
      moves = x.moves + length (needed (places b x.free es));
      over = x.over || ltb (slot_count w - 1) (length (packed_entries w b x.free es) + last_count left q v);
    }

-- what it presumes
pub record Surveyable (w : ℕ) (g : List ℕ) (x : Survey) : Type 0 where
  pub walk : Walkable w g (first_of g) x.free
  pub few : x.moves ≤ 65535

pub record SurveyedTo (v w left : ℕ) (g : List ℕ) (x r : Survey) : Type 0 where
  pub is : r ≡ survey_after v w left g x
  pub moves : r.moves ≤ x.moves + 507

-- the whole pass: how many moves, fewer than 31 segments have words, and whether a segment of the new directory is overfull
pub record ChainSurveyed (v : ℕ) (d : List ℕ) (r : Survey) : Type 0 where
  pub moves : r.moves ≡ length (moves d)
  pub few : r.moves ≤ 15717
  pub over : r.over ≡ overfull (capacity d) (new_parts v d)
