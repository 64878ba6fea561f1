-- The starred examples and the slips hold: antt computes every row of the two tables. Both claims open all definitions of the meaning.
-- Assumes nothing.
use mathlib.Core.Path.{◌≡◌, refl}
use mathlib.Core.Bool.{true}
use Rattle.meaning.specs.Examples.{name_in, ask, table, files_from, slips, answered, left, runs, requests_in, answer_room, all_answered, batches, all_right}
use Rattle.meaning.proofs.Opened.{all_names, all_dates, all_words, all_sound, all_requests, all_enter, all_listing}

-- all that the two tables compute with
all_examples : Unit {0}
unfolding all_names all_dates all_words all_sound all_requests all_enter all_listing name_in ask files_from answered left runs requests_in
    answer_room all_answered batches all_right
all_examples = tt

pub examples : all_right table ≡ true
unfolding all_examples table
examples = refl

pub warned : all_right slips ≡ true
unfolding all_examples slips
warned = refl
