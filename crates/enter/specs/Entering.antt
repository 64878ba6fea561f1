-- Enter on a sound directory, once refusals 1 to 10 are behind it.
use Rattle.std.specs.Prelude.{ℕ, ◌≡◌, Bool, false, List, map}
use Rattle.meaning.specs.declared.Name.{Name}
use Rattle.meaning.specs.Kinds.{tentative_status}
use Rattle.meaning.specs.Words.{slot_words, Entry, entries, chain}
use Rattle.meaning.specs.Sound.{any}
use Rattle.meaning.specs.Answers.{Outcome, unless, is_none}
use Rattle.meaning.specs.Requests.{entry_of}
use Rattle.meaning.specs.Enter.{Size, Area, untidy, tidied, areas, eligibles, wanted, at_least, long_enough, first_fit, placed}

-- the areas of the tidied directory
abbrev pub areas_of : List ℕ → List Area
areas_of d = areas (tidied d (chain d)) (chain d)

-- some open segment is untidy
abbrev pub any_untidy : List ℕ → Bool
any_untidy d = any (λ s. untidy (entries d s)) (chain d)

-- the new entry
abbrev pub new_of : List ℕ → Name → ℕ → ℕ → ℕ → Entry
new_of d name n channel date = entry_of (slot_words d) tentative_status name n channel date

-- an eligible area of at least n blocks is there
abbrev pub Fits : List ℕ → ℕ → Type 0
Fits d n = is_none (first_fit n (eligibles (areas_of d))) ≡ false

-- the new entry of n blocks, in the first eligible area that is long enough
abbrev pub placed_in : List ℕ → Name → ℕ → ℕ → ℕ → Outcome
placed_in d name n channel date =
    placed d (tidied d (chain d)) n date (new_of d name n channel date) (first_fit n (eligibles (areas_of d)))

-- enter's last tests, and the placing
unfoldable pub entering : List ℕ → Name → Size → ℕ → ℕ → Outcome
entering d name size channel date =
    unless 11 (long_enough (at_least size) (areas_of d)) d λ _.
    unless 12 (long_enough (at_least size) (eligibles (areas_of d))) d λ _.
    placed_in d name (wanted size (map (λ r. r.size) (eligibles (areas_of d)))) channel date
