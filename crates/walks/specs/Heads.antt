-- What rules 1 and 2 give, as numbers that code can reckon with.
use Rattle.std.specs.Prelude.{ℕ, ◌*◌, ◌%◌, ◌≤◌, ◌≡◌, List, length}
use Rattle.meaning.specs.Words.{segments, first_data, total_of, highest, extra_bytes_of}

-- rule 1: N segments of 512 words, 1 to 31, and V from 6+2N to 65,535
pub record Sized (v : ℕ) (d : List ℕ) : Type 0 where
  pub some : 1 ≤ segments d
  pub few : segments d ≤ 31
  pub whole : length d ≡ 512 * segments d
  pub room : first_data d ≤ v
  pub wide : v ≤ 65535

-- rule 2: the total is N, H is 1..N, the extra bytes are even and at most 32
pub record Headed (d : List ℕ) : Type 0 where
  pub total : total_of d ≡ segments d
  pub used : 1 ≤ highest d
  pub within : highest d ≤ segments d
  pub even : extra_bytes_of d % 2 ≡ 0
  pub few : extra_bytes_of d ≤ 32
