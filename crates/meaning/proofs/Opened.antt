-- The definitions of the meaning, module by module: a claim that opens one of these names opens all that its line names, and so can be
-- computed. The names themselves say nothing.
use Rattle.names.specs.Text.{bytes, same_bytes}
use Rattle.names.specs.Radix.{alphabet, shown, place, code_of, packed, packed_at, spelled, text_of, in_name, in_text, blank}
use Rattle.names.specs.Radix.{padded, legal_text, spells, legal_name, words_of_text, text_of_words}
use Rattle.dates.specs.Dates.{years, month_lengths, is_leap, days_in, in_calendar, packed_day, day_field, month_field, names_day}
use Rattle.dates.specs.Dates.{good_date, word_of_day, day_of_word}
use Rattle.meaning.specs.Kinds.{kind_of}
use Rattle.meaning.specs.Words.{protected, segment, capacity, same_name, chunks, slots, upto, entries, total, chain_from, reached, chain}
use Rattle.meaning.specs.Words.{rows_in, segment_rows, rows_of, rows, entries_of, all_entries}
use Rattle.meaning.specs.Keys.{key_of, holds, spared, once, clash}
use Rattle.meaning.specs.Sound.{any, bad1, bad2, times, each_once, differs, bad3, unmarked, long_name, bad_name, begins_empty}
use Rattle.meaning.specs.Sound.{alone, bad_slots, bad4, filled, bad5, clashes, bad6, fault}
use Rattle.meaning.specs.Answers.{refuse, success, find, file_of, open_on, write}
use Rattle.meaning.specs.Requests.{success_with, lookup, emptying, delete, restating, restate, protect, unprotect, channel_limit, good_channel, abandon}
use Rattle.meaning.specs.Requests.{renaming, rename, replacing, gives_way, over_protected, closing, final_length, close, entry_of, flat, render}
use Rattle.meaning.specs.Requests.{fresh_words, fresh}
use Rattle.meaning.specs.Enter.{size_of, joined, drop_zero, tidy, with_segment, header_of, has_run, has_zero, untidy}
use Rattle.meaning.specs.Enter.{tidied_at, tidied, cost_after, has_room}
use Rattle.meaning.specs.Enter.{areas_in, areas, eligibles, longest_of, without, second_of, wanted, at_least, long_enough, first_fit}
use Rattle.meaning.specs.Enter.{ends_tentative, kept, inserted, unsplit, split, entered, split_at, entered_at, enter}
use Rattle.meaning.specs.Batch.{serve, words_after, answers_to, batch}
use Rattle.meaning.specs.Listing.{digits_of, decimal, two_digits, date_text}

unfoldable pub all_names : Unit {0}
unfolding bytes alphabet shown place code_of packed packed_at spelled text_of in_name in_text blank padded legal_text spells legal_name
    words_of_text text_of_words
all_names = tt

unfoldable pub all_dates : Unit {0}
unfolding years month_lengths is_leap days_in in_calendar packed_day day_field month_field names_day good_date word_of_day
    day_of_word
all_dates = tt

unfoldable pub all_words : Unit {0}
unfolding kind_of protected segment capacity same_name chunks slots upto entries total chain_from reached chain rows_in segment_rows rows_of rows
    entries_of all_entries key_of holds spared once clash
all_words = tt

unfoldable pub all_sound : Unit {0}
unfolding any bad1 bad2 times each_once differs bad3 unmarked long_name bad_name begins_empty alone bad_slots bad4 filled bad5 clashes bad6
    fault
all_sound = tt

unfoldable pub all_requests : Unit {0}
unfolding refuse success find file_of open_on write success_with lookup emptying delete restating restate protect unprotect channel_limit
    good_channel abandon renaming rename replacing gives_way over_protected closing final_length close entry_of flat render fresh_words fresh serve
    words_after answers_to batch
all_requests = tt

unfoldable pub all_enter : Unit {0}
unfolding size_of joined drop_zero tidy with_segment header_of has_run has_zero untidy tidied_at tidied cost_after has_room areas_in areas
    eligibles longest_of without second_of wanted at_least long_enough first_fit ends_tentative kept inserted unsplit split entered split_at
    entered_at enter
all_enter = tt

unfoldable pub all_listing : Unit {0}
unfolding same_bytes digits_of decimal two_digits date_text
all_listing = tt
