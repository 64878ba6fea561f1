-- Of a sound directory the files to be kept are all its permanent rows. Its slots are readable, so that those before a segment's marker are
-- legible, all of them; and row by row a file's first block is reckoned as a row's is, from the segment's stored start.
use Prim.Native.Nat.{ℕ, ◌+◌, ◌*◌, ◌-◌}
use mathlib.Core.Path.{◌≡◌, refl}
use mathlib.Core.Bool.{Bool, true, false, cond, ◌||◌, true≢false}
use mathlib.Core.List.{List, [], ◌∷◌, ◌++◌}
use Rattle.meaning.specs.declared.Kind.{Kind}
use Rattle.meaning.specs.declared.Kind.TheVariants.{Tentative, Empty, Permanent, End, Unknown}
use Rattle.meaning.specs.Kinds.{is_tentative, is_permanent, is_end, is_unknown}
use Rattle.meaning.specs.Words.{segment, first_of, slot_words, Entry, kind, blocks, upto, entries, chain, Row, rows_in, segment_rows, rows_of, rows}
use Rattle.walks.specs.Lists.{All}
use Rattle.walks.specs.Scan.{bad_by, long_named, scan_bad}
use Rattle.walks.proofs.Slots.{slots_of}
use Rattle.rules.proofs.Touch.{by_rest}
use Rattle.rules.proofs.Soundness.{Readable, sound}
use Rattle.repaired.specs.Kept.{kept_at, legible, kept_from, kept_in, kept_of, kept_files}
use Rattle.repairlaws.specs.Reachable.{row_files, AllKept}

-- of readable slots, those before the marker are legible
pub legible-upto : (p : Bool) (es : List Entry) → scan_bad p es ≡ false → legible es ≡ upto es
unfolding scan_bad legible upto
legible-upto p [] h = refl
legible-upto p (e ∷ es) h =
    go (kind e) (scan_bad (is_tentative (kind e)) es) h (λ k. legible-upto (is_tentative (kind e)) es (by_rest (kind e) p (long_named e) _ k h))
  where
    go : (k : Kind) (r : Bool) → bad_by k p (long_named e) r ≡ false → (is_end k ≡ false → legible es ≡ upto es)
        → cond (is_end k || is_unknown k) [] (e ∷ legible es) ≡ cond (is_end k) [] (e ∷ upto es)
    go Tentative r h i = rw (i refl)
    go Empty r h i = rw (i refl)
    go Permanent r h i = rw (i refl)
    go End r h i = refl
    go Unknown r h i = absurd (true≢false h)

-- rows of one segment, and of several
rows_in_lem : (w s k a b : ℕ) (es : List Entry) → kept_from b es ≡ row_files (rows_in w s k a b es)
unfolding kept_from row_files rows_in
rows_in_lem w s k a b [] = refl
rows_in_lem w s k a b (e ∷ es) = rw (rows_in_lem w s (k + 1) (a + w) (b + blocks e) es)

rows_append : (xs ys : List Row) → row_files (xs ++ ys) ≡ row_files xs ++ row_files ys
unfolding row_files
rows_append [] ys = refl
rows_append (x ∷ xs) ys = go (is_permanent (kind x.entry)) (rows_append xs ys)
  where
    go : (z : Bool) → row_files (xs ++ ys) ≡ row_files xs ++ row_files ys
        → cond z (kept_at x.first x.entry ∷ row_files (xs ++ ys)) (row_files (xs ++ ys))
        ≡ cond z (kept_at x.first x.entry ∷ row_files xs) (row_files xs) ++ row_files ys
    go true i = rw i
    go false i = i

rows_along : (d ss : List ℕ) → All (Readable d) ss → kept_of (slot_words d) d ss ≡ row_files (rows_of d ss)
unfolding kept_of kept_in rows_of segment_rows entries row_files
rows_along d [] a = refl
rows_along d (s ∷ ss) a =
    rw (
      legible-upto false (slots_of d s) a.0,
      rows_in_lem (slot_words d) s 1 (512 * (s - 1) + 5) (first_of (segment d s)) (upto (slots_of d s)),
      rows_along d ss a.1,
      rows_append (segment_rows d s) (rows_of d ss),
    )

pub kept-rows : (v : ℕ) (d : List ℕ) → AllKept v d
unfolding kept_files rows
kept-rows v d h = rows_along d (chain d) (sound v d h).readable
