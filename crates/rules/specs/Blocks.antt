-- Demand 2, of a sound directory: the blocks of every entry lie among the data blocks, 6+2N to V−1, and no two entries share one
-- (proofs/Blocks.antt).
use Rattle.std.specs.Prelude.{ℕ, ◌+◌, ◌≤◌, ◌<◌, ◌≡◌, ◌⊎◌, List, [], length, get_or}
use Rattle.std.proofs.Math.Option.{some}
use Rattle.meaning.specs.declared.Key.{Key}
use Rattle.meaning.specs.Words.{first_data, blocks, Row, rows}
use Rattle.meaning.specs.Keys.{holds}
use Rattle.meaning.specs.Answers.{find}

-- the row at a place of the directory's rows, counted from 0; past their end stands no row
abbrev pub no_row : Row
no_row = record { seg = 0; slot = 0; at = 0; first = 0; entry = [] }

abbrev pub nth_row : List ℕ → ℕ → Row
nth_row d i = get_or (rows d) i no_row

-- where a row ends: the block after its last
abbrev pub end_of_row : Row → ℕ
end_of_row r = r.first + blocks r.entry

-- the blocks of two rows do not meet: those of the one end before those of the other begin
abbrev pub BlocksApart : Row → Row → Type 0
BlocksApart r s = (end_of_row r ≤ s.first) ⊎ (end_of_row s ≤ r.first)

pub record Blocks (v : ℕ) (d : List ℕ) : Type 0 where
  pub within : (i : ℕ) → i < length (rows d) → (first_data d ≤ (nth_row d i).first) × (end_of_row (nth_row d i) ≤ v)
  pub apart : (i j : ℕ) → i < length (rows d) → j < length (rows d) → (i ≡ j → ⊥) → BlocksApart (nth_row d i) (nth_row d j)
  -- so a file's blocks are no other file's, and no open channel's
  pub keys : (k l : Key) → (k ≡ l → ⊥) → (r s : Row) → find (holds k) (rows d) ≡ some r → find (holds l) (rows d) ≡ some s → BlocksApart r s
