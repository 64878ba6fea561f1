-- What a line tells (docs/CASES.md): the numbers of an answer, and the check over the words of a directory or over the bytes of a block.
use Rattle.std.specs.Prelude.{◌≡◌, ℕ, ◌+◌, ◌*◌, ◌%◌, List, [], ◌∷◌}
use Rattle.meaning.specs.declared.Answer.{Answer}
use Rattle.cases.specs.declared.output.Sums.{Sums}

-- the check stands behind the answer
abbrev pub numbers_of : Answer → ℕ → List ℕ
numbers_of a check = a.number ∷ a.first ∷ a.length ∷ a.date ∷ a.segment ∷ a.slot ∷ check ∷ []

-- for each word or byte w, a becomes (a + w) mod 65,521, and then b becomes (b + a) mod 65,521; the check is b·65,536 + a
unfoldable pub check_from : ℕ → ℕ → List ℕ → ℕ
check_from a b [] = b * 65536 + a
check_from a b (w ∷ ws) = check_from ((a + w) % 65521) ((b + (a + w) % 65521) % 65521) ws

-- from a = 1 and b = 0
unfoldable pub check : List ℕ → ℕ
check ws = check_from 1 0 ws

-- both sums with w more
pub record Added (s : Sums) (w : ℕ) (r : Sums) : Type 0 where
  pub a : r.a ≡ (s.a + w) % 65521
  pub b : r.b ≡ (s.b + r.a) % 65521
