-- What the runner promises: its number, the words and the slice for answers are those of the meaning's batch.
use Rattle.std.specs.Prelude.{ℕ, ◌≡◌, List, ◌++◌}
use Rattle.meaning.specs.declared.Answer.{Answer}
use Rattle.meaning.specs.Batch.{Batched}
use Rattle.batch.specs.declared.Part.{Part}

pub record Ran (number : ℕ) (words : List ℕ) (answers : List Answer) (b : Batched) : Type 0 where
  pub is : number ≡ b.number
  pub after : words ≡ b.words
  pub answered : answers ≡ b.answers

-- the same of what is handed back by value, where the rest of the room for answers stays as it was
pub record Left (part : Part) (words : List ℕ) (b : Batched) (rest : List Answer) : Type 0 where
  pub is : part.number ≡ b.number
  pub after : words ≡ b.words
  pub answered : part.answers ≡ b.answers ++ rest
