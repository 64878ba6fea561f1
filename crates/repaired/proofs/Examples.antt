-- The examples hold: antt computes every row of the two tables. The claims open all definitions of the meaning.
use mathlib.Core.Path.{◌≡◌, refl}
use mathlib.Core.Bool.{true}
use Rattle.meaning.proofs.Opened.{all_words, all_sound, all_requests, all_enter, all_listing}
use Rattle.repaired.specs.Kept.{legible, kept_from, kept_in, kept_of, kept_files, same_file, taken_out, same_files, beyond, passes, accepts}
use Rattle.repaired.specs.Tool.{insert_first, sorted, firsts_of, mend, files_among, with_slots, mended, proposal, repair}
use Rattle.repaired.specs.Examples.{spaced, segment_with, mends_right, all_mend, damages, tests_right, all_test, offers}

-- all that the examples compute with
all_repaired : Unit {0}
unfolding all_words all_sound all_requests all_enter all_listing legible kept_from kept_in kept_of kept_files same_file taken_out same_files
    beyond passes accepts insert_first sorted firsts_of mend files_among with_slots mended proposal repair spaced segment_with mends_right all_mend
    damages tests_right all_test offers
all_repaired = tt

pub examples : all_mend damages ≡ true
unfolding all_repaired
examples = refl

pub tested : all_test offers ≡ true
unfolding all_repaired
tested = refl
