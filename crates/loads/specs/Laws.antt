-- What follows from the rules of load files (proofs/Laws.antt).
use Rattle.std.specs.Prelude.{ℕ, ◌+◌, ◌≤◌, ◌<◌, ◌≡◌, ◌⊎◌, List, ◌++◌, length, get_or, drop}
use Rattle.loads.specs.Memory.{byte_at}
use Rattle.loads.specs.Reading.{load_answer, load_memory}
use Rattle.loads.specs.Writing.{save_answer, save_output}

-- a memory of 16-bit words
abbrev pub Words : List ℕ → Type 0
Words m = (i : ℕ) → get_or m i 0 < 65536

-- "What it makes, the reader must read back to the same bytes and address": the n bytes of m from a on, with transfer address t, are read from the
-- stream s into the memory w
pub record ReadsBack (s m : List ℕ) (a n t : ℕ) (w : List ℕ) : Type 0 where
  pub answer : load_answer s w ≡ record { number = 0; transfer = t }
  pub inside : (x : ℕ) → a ≤ x → x < a + n → byte_at (load_memory s w) x ≡ byte_at m x
  -- every other byte of the memory is as it was
  pub outside : (x : ℕ) → (x < a) ⊎ (a + n ≤ x) → byte_at (load_memory s w) x ≡ byte_at w x
  pub long : length (load_memory s w) ≡ length w

-- what a stream says is final
pub record LoadLaws (s m : List ℕ) : Type 0 where
  -- "Memory is then unchanged."
  pub refused : ((load_answer s m).number ≡ 0 → ⊥) → load_memory s m ≡ m
  -- no bytes behind it change a refusal that is not the input's end
  pub decided : ((load_answer s m).number ≡ 30 → ⊥) → (rest : List ℕ) → load_answer (s ++ rest) m ≡ load_answer s m
  -- "Bytes after the end block are ignored."
  pub ignored : (load_answer s m).number ≡ 0 → (rest : List ℕ) → load_memory (s ++ rest) m ≡ load_memory s m
  -- only words of the memory change, and none is lost
  pub long : length (load_memory s m) ≡ length m

-- the writer's room
pub record SaveLaws (m : List ℕ) (a n t : ℕ) (out : List ℕ) : Type 0 where
  pub long : length (save_output m a n t out) ≡ length out
  -- the bytes behind the file are as they were
  pub behind : drop (save_answer m a n t (length out)).count (save_output m a n t out) ≡ drop (save_answer m a n t (length out)).count out
