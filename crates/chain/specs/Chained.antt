-- What rules 1 to 3 give: whole segments, at most 31, of which H are linked from segment 1; and slots of 7 to 23 words.
use Rattle.std.specs.Prelude.{ℕ, ◌*◌, ◌≤◌, ◌≡◌, true, List, length}
use Rattle.meaning.specs.Words.{extra_bytes_of, highest}
use Rattle.walks.specs.Links.{linked}

pub record Chained (d : List ℕ) : Type 0 where
  pub whole : 512 * highest d ≤ length d
  pub few : length d ≤ 15872
  pub some : 1 ≤ highest d
  pub extra : extra_bytes_of d ≤ 32
  pub links : linked (highest d) d 1 ≡ true
