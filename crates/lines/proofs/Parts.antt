-- The lines and rows of the meaning are those of the pieces, at the numbers and words that the directory has there. For lines and
-- names that is how both are defined. A row's date goes by the word 0 for an empty entry, which names no day and so prints the
-- same ten hyphens. Assumes nothing.
use Prim.Native.Nat.{ℕ}
use mathlib.Core.Path.{◌≡◌, refl}
use mathlib.Core.Bool.{Bool, true, false, cond}
use mathlib.Core.List.{List, ◌++◌, append_assoc}
use lib.ListN.{get_or}
use Rattle.names.specs.Text.{bytes}
use Rattle.dates.specs.Dates.{years, in_calendar, day_field, month_field, names_day}
use Rattle.meaning.specs.Kinds.{is_empty, is_tentative, is_permanent}
use Rattle.meaning.specs.Words.{segments, extra_bytes_of, highest, Entry, name_word, name2_word, extension_word, kind, blocks, date_of}
use Rattle.meaning.specs.Words.{Row, all_entries}
use Rattle.meaning.specs.Listing.{letter, six_wide, date_text, name_text, row_text, blocks_of, head_line, total_line}
use Rattle.lines.specs.Pieces.{dotted, name_by, row_start, row_date, row_end, row_by, head_by, total_by}

pub head_by_lem : (v : ℕ) (d : List ℕ) → head_line v d ≡ head_by v (highest d) (segments d) (extra_bytes_of d)
unfolding head_line head_by
head_by_lem v d = refl

pub total_by_lem : (d : List ℕ)
    → total_line d
    ≡ total_by (blocks_of is_permanent (all_entries d)) (blocks_of is_tentative (all_entries d)) (blocks_of is_empty (all_entries d))
unfolding total_line total_by
total_by_lem d = refl

pub name_by_lem : (e : Entry) → name_text e ≡ name_by (get_or e name_word 0) (get_or e name2_word 0) (get_or e extension_word 0)
unfolding name_text name_by dotted
name_by_lem e = refl

no-date : date_text 0 ≡ bytes "----------"
unfolding date_text names_day in_calendar years day_field month_field
no-date = refl

date_by : (t : Bool) (word : ℕ) → cond t (bytes "----------") (date_text word) ≡ date_text (cond t 0 word)
date_by true word = rw no-date
date_by false word = refl

regroup : (l a b c : List ℕ) → l ++ a ++ b ++ c ≡ l ++ (a ++ b ++ c)
regroup l a b c = simp append_assoc

pub row_by_lem : (r : Row)
    → row_text r
    ≡ row_by
    (kind r.entry)
    (get_or r.entry name_word 0)
    (get_or r.entry name2_word 0)
    (get_or r.entry extension_word 0)
    r.first
    (blocks r.entry)
    (date_of r.entry)
unfolding row_text row_by row_start row_date row_end
row_by_lem r =
    let e = r.entry in
    let front = letter (kind e) ++ bytes " " ++ cond (is_empty (kind e)) (bytes "..........") (name_text e) in
    let date = cond (is_empty (kind e)) (bytes "----------") (date_text (date_of e)) in
    rw (← name_by_lem e, ← date_by (is_empty (kind e)) (date_of e))
    (regroup (front ++ six_wide r.first ++ six_wide (blocks e)) (bytes " ") date (bytes "\n"))
