-- What follows from the rules of block 1 (proofs/Laws.antt). The writer takes name and owner of twelve bytes each.
use Rattle.std.specs.Prelude.{ℕ, ◌+◌, ◌≤◌, ◌<◌, ◌≡◌, true, ◌⊎◌, List, length, get_or}
use Rattle.label.specs.Labels.{name_place, mark_place, with_label, label_of, write_number, written}

pub record WriterLaws (block name owner : List ℕ) : Type 0 where
  -- no byte changes but the 36 of name, owner and mark
  pub long : length (written block name owner) ≡ length block
  pub others : (i : ℕ) → (i < name_place) ⊎ (mark_place + 12 ≤ i) → get_or (written block name owner) i 0 ≡ get_or block i 0
  -- what is written is read
  pub read : write_number block name owner ≡ 0 → label_of (written block name owner) ≡ with_label name owner
  -- a second equal write changes nothing
  pub again : written (written block name owner) name owner ≡ written block name owner

-- what is read and written back changes nothing
pub record ReaderLaws (block : List ℕ) : Type 0 where
  pub back : (label_of block).labelled ≡ true → written block (label_of block).name (label_of block).owner ≡ block
