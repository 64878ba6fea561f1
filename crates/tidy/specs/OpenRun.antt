-- Where the tidy of a segment stands, as code holds it: a run of empty entries by its first.
use Rattle.std.specs.Prelude.{ℕ, ◌+◌, cond, List, [], ◌∷◌, ◌++◌, length}
use Rattle.meaning.specs.Kinds.{end_status, is_tentative}
use Rattle.meaning.specs.Words.{Entry, kind}
use Rattle.meaning.specs.Requests.{flat}
use Rattle.meaning.specs.Enter.{is_area}
use Rattle.walks.specs.Runs.{RunSoFar, calm, within, absorb, flushed}
use Rattle.segment.specs.Written.{Written}
use Rattle.tidy.specs.declared.tidy.RunAt.{RunAt}
use Rattle.tidy.specs.declared.tidy.RunAt.TheVariants.{Calm, Within}

-- the run of the definition
abbrev pub run_of : RunAt → RunSoFar
run_of (Calm p) = calm p
run_of (Within e t p) = within e.words.now t p

-- the sum of the open run
abbrev pub sum_of : RunSoFar → ℕ
sum_of (calm p) = 0
sum_of (within e t p) = t

-- the run after an entry: an empty one more, or none
abbrev pub after : RunSoFar → Entry → RunSoFar
after r f = cond (is_area f) (absorb r f) (calm (is_tentative (kind f)))

-- what an entry lets out: an empty one nothing, any other the run that it ends, and itself
unfoldable pub let_out : RunSoFar → Entry → List Entry
let_out r f = cond (is_area f) [] (flushed r ++ f ∷ [])

-- the words that a run leaves, and those that an entry lets out
abbrev pub left_of : RunSoFar → List ℕ
left_of r = flat (flushed r) []

abbrev pub out_of : RunSoFar → Entry → List ℕ
out_of r f = flat (let_out r f) []

-- the entries es were written into b from q on, and the marker after them
abbrev pub Finished : List ℕ → ℕ → List Entry → List ℕ → Type 0
Finished b q es a = Written b q (flat es (end_status ∷ [])) a (q + length (flat es []) + 1)
