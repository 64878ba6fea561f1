-- What the tidy promises: of a segment's words, and of the directory.
use Rattle.std.specs.Prelude.{ℕ, ◌≤◌, ◌<◌, ◌≡◌, cond, List, length, get_or, take}
use Rattle.meaning.specs.Words.{segment, highest, slots, upto, entries, total, chain}
use Rattle.meaning.specs.Requests.{render}
use Rattle.meaning.specs.Enter.{tidy, untidy, tidied}
use Rattle.chain.specs.Chained.{Chained}

-- the words g of a segment with its entries tidied, in slots of w words; where they are not untidy, as they were
unfoldable pub tidied_words : ℕ → List ℕ → List ℕ
tidied_words w g =
    let es = upto (slots w g) in
    cond (untidy es) (render (take 5 g) (tidy es)) g

-- what the tidy of a segment presumes: 512 words, slots of w words, and lengths whose sum fits a word, so that a run's does
pub record Tidyable (w : ℕ) (g : List ℕ) : Type 0 where
  pub whole : length g ≡ 512
  pub wide : 7 ≤ w
  pub narrow : w ≤ 23
  pub small : total (upto (slots w g)) ≤ 65535

-- what rules 3 and 5 give: the lengths of each open segment have such a sum
abbrev pub Small : List ℕ → Type 0
Small d = (s : ℕ) → 1 ≤ s → s ≤ highest d → total (entries d s) ≤ 65535

-- the directory d, tidied to t, keeps its length and every header, so it is as rightly linked and has the same chain; an open
-- segment has its tidied entries, and a segment that is not in use is as it was
pub record TidyKept (d t : List ℕ) : Type 0 where
  pub long : length t ≡ length d
  pub headers : (s k : ℕ) → 1 ≤ s → k < 5 → get_or (segment t s) k 0 ≡ get_or (segment d s) k 0
  pub chained : Chained t
  pub links : chain t ≡ chain d
  pub used : (s : ℕ) → 1 ≤ s → s ≤ highest d → entries t s ≡ tidy (entries d s)
  pub unused : (s : ℕ) → highest d < s → segment t s ≡ segment d s

pub record TidiedFrom (d t : List ℕ) : Type 0 where
  pub is : t ≡ tidied d (chain d)
  pub kept : TidyKept d t
