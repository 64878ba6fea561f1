-- The examples hold: antt computes every row of the table, and the moves of the worked vector on a volume. The claims open all definitions of
-- the meaning.
use mathlib.Core.Path.{◌≡◌, refl}
use mathlib.Core.Bool.{true}
use Rattle.meaning.proofs.Opened.{all_words, all_sound, all_requests, all_enter, all_listing}
use Rattle.squeezed.specs.Moves.{idle, needed, copied, applied}
use Rattle.squeezed.specs.Squeeze.{is_file, is_bad, new_place, free_after, free_up_to, places, moves, left_over, packed_entries, parts, new_parts, rewritten}
use Rattle.squeezed.specs.Squeeze.{squeezed, has_tentative, overfull, too_short, squeeze_number, move_words, squeeze}
use Rattle.squeezed.specs.Examples.{holds_so, all_so, trials, row, depot_moved}

-- all that the examples compute with
all-squeezed : Unit {0}
unfolding all_words all_sound all_requests all_enter all_listing idle needed copied applied is_file is_bad new_place free_after free_up_to places moves
    left_over packed_entries parts new_parts rewritten squeezed has_tentative overfull too_short squeeze_number move_words squeeze holds_so all_so
    trials row depot_moved
all-squeezed = tt

pub examples : all_so trials ≡ true
unfolding all-squeezed
examples = refl

pub moved : depot_moved ≡ true
unfolding all-squeezed
moved = refl
