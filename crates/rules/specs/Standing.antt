-- Where an entry of a directory is (document 02, Req 08): its segment and slot tell the entry and its first block. Every row of a sound
-- directory is where it says (proofs/Standing.antt).
use Rattle.std.specs.Prelude.{ℕ, ◌+◌, ◌-◌, ◌≤◌, ◌≡◌, List, [], length, get_or, take}
use Rattle.meaning.specs.Words.{segment, first_of, highest, Entry, entries, total}

-- in slot k of segment s, both counted from 1, stands the entry e: the segment is in use, the slot comes before its marker, and e begins at
-- block b, behind the entries before it
pub record StandsAt (d : List ℕ) (s k b : ℕ) (e : Entry) : Type 0 where
  pub used : (1 ≤ s) × (s ≤ highest d)
  pub slot : (1 ≤ k) × (k ≤ length (entries d s))
  pub entry : get_or (entries d s) (k - 1) [] ≡ e
  pub first : first_of (segment d s) + total (take (k - 1) (entries d s)) ≡ b
