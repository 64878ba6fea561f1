-- What test and tool of a repair promise.
use Rattle.std.specs.Prelude.{ℕ, ◌≤◌, ◌≡◌, cond, List}
use Rattle.meaning.specs.Words.{first_data}
use Rattle.chain.specs.Chained.{Chained}
use Rattle.repaired.specs.Kept.{passes}
use Rattle.repaired.specs.Tool.{Repaired, proposal}

-- what rules 1 to 3 give: a chain, and a V that has room for the directory
pub record Reparable (v : ℕ) (d : List ℕ) : Type 0 where
  pub chained : Chained d
  pub volume : v ≤ 65535
  pub room : first_data d ≤ v

-- what the tool gives where there is damage that may be repaired
unfoldable pub proposed : ℕ → List ℕ → Repaired
proposed v d = cond (passes v d (proposal v d)) (record { number = 0; words = proposal v d }) (record { number = 22; words = d })

-- the tool's number, and the words that it leaves
pub record Gives (r : ℕ) (after : List ℕ) (p : Repaired) : Type 0 where
  pub number : r ≡ p.number
  pub words : after ≡ p.words
