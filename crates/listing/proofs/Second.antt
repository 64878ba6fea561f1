-- The listing of version 2, and of any file. A refusal's number has its line alone, 25 before the directory's fault; without one the label's
-- line and the listing of the directory add up. A file that is no good head file of version 2 has document 01's listing. Assumes nothing.
use Prim.Native.Nat.{ℕ, zero, suc}
use mathlib.Core.Path.{◌≡◌, refl, ◌∙◌}
use mathlib.Core.Bool.{Bool, true, false}
use mathlib.Core.List.{List}
use native.Mathlib.Omega.{arith}
use native.Mathlib.Nat.{zero-add}
use lib.ListN.{length}
use Rattle.names.specs.Text.{bytes}
use Rattle.meaning.specs.Sound.{fault}
use Rattle.meaning.specs.Listing.{volume_in, refused_line, sound_text, listing}
use Rattle.label.specs.declared.Label.{Label}
use Rattle.label.specs.Labels.{label_of}
use Rattle.lines.specs.Wrote.{Wrote, WroteAtMost}
use Rattle.lines.specs.Pieces.{label_by}
use Rattle.lines.proofs.Writes.{both}
use Rattle.listing.specs.HeadFiles.{block_in, words_after_block, good_second, label_line, labelled_text, second_by, second_listing, listing_of}
use Rattle.listing.specs.Listed.{Listed}

-- the label's line, by its parts
line_by : (labelled : Bool) (n : ℕ) (name owner : List ℕ)
    → label_line (record { number = n; labelled = labelled; name = name; owner = owner }) ≡ label_by labelled name owner
unfolding label_line label_by bytes
line_by true n name owner = refl
line_by false n name owner = refl

pub labelled_text_lem : {b m a : List ℕ} {x r : ℕ} (l : Label) (v : ℕ) (d : List ℕ) → fault v d ≡ 0
    → WroteAtMost 32 b 0 (label_by l.labelled l.name l.owner) m x
    → WroteAtMost 79319 m x (sound_text v d) a r
    → WroteAtMost 79351 b 0 (labelled_text (fault v d) l v d) a r
labelled_text_lem l v d e u w =
    rw (e, line_by l.labelled l.number l.name l.owner)
    (record { wrote = both u.wrote w.wrote; short = omega (arith, u.short, w.short) })

refused_by : (n : ℕ) (l : Label) (v : ℕ) (d : List ℕ) → (n ≡ 0 → ⊥) → labelled_text n l v d ≡ refused_line n
refused_by zero l v d h = absurd (h refl)
refused_by (suc n) l v d h = refl

pub refused_labelled : {b a : List ℕ} {r n : ℕ} (l : Label) (v : ℕ) (d : List ℕ) → n ≡ fault v d → (n ≡ 0 → ⊥)
    → WroteAtMost 14 b 0 (refused_line n) a r
    → WroteAtMost 79351 b 0 (labelled_text (fault v d) l v d) a r
refused_labelled {n = n} l v d e h u =
    rw (← e, refused_by n l v d h) (record { wrote = u.wrote; short = omega (arith, u.short) })

-- a label that is refused, and one that is not
label-first : (n : ℕ) (l : Label) (v : ℕ) (d : List ℕ) → (n ≡ 0 → ⊥) → second_by n l v d ≡ refused_line n
label-first zero l v d h = absurd (h refl)
label-first (suc n) l v d h = refl

label-passed : (n : ℕ) (l : Label) (v : ℕ) (d : List ℕ) → n ≡ 0 → second_by n l v d ≡ labelled_text (fault v d) l v d
label-passed n l v d h = rw h

pub bad-block : {b a : List ℕ} {r : ℕ} {l : Label} (file : List ℕ) → l ≡ label_of (block_in file) → (l.number ≡ 0 → ⊥)
    → WroteAtMost 14 b 0 (refused_line l.number) a r
    → WroteAtMost 79351 b 0 (second_listing file) a r
unfolding second_listing
bad-block {l = l} file e h w =
    rw (← e, label-first l.number l (volume_in file) (words_after_block file) h)
    (record { wrote = w.wrote; short = omega (arith, w.short) })

pub good-block : {b a d : List ℕ} {r v : ℕ} {l : Label} (file : List ℕ) → l ≡ label_of (block_in file) → l.number ≡ 0
    → v ≡ volume_in file → d ≡ words_after_block file
    → WroteAtMost 79351 b 0 (labelled_text (fault v d) l v d) a r
    → WroteAtMost 79351 b 0 (second_listing file) a r
unfolding second_listing
good-block {d = d} {v = v} {l = l} file e h f g w = rw (← e, ← f, ← g, label-passed l.number l v d h) w

-- a text that is the file's
listed : {file b t a : List ℕ} {r : ℕ} → listing_of file ≡ t → Wrote b 0 t a r → Listed file b a r
listed {file} {b} {t} {a} {r} e w =
    record { long = rw e (omega (arith, w.ends)); text = rw e (w.is ∙ rw (zero-add (length t))) }

pub listed-second : {b a : List ℕ} {r : ℕ} (file : List ℕ) → good_second file ≡ true
    → WroteAtMost 79351 b 0 (second_listing file) a r
    → Listed file b a r
unfolding listing_of
listed-second file h w = listed (rw h) w.wrote

pub listed-first : {b a : List ℕ} {r : ℕ} (file : List ℕ) → good_second file ≡ false
    → WroteAtMost 79319 b 0 (listing file) a r
    → Listed file b a r
unfolding listing_of
listed-first file h w = listed (rw h) w.wrote
