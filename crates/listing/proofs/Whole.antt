-- The listing as a whole. A sound directory has numbers that fit its first line; its three parts add up, and so do the parts of a
-- refusal. With a good head the words loaded are the directory's, so that their text is the file's, and without one the text is the
-- line of 17. Assumes nothing.
use Prim.Native.Nat.{ℕ, zero, suc, ◌+◌, ◌≤◌}
use mathlib.Core.Path.{◌≡◌, refl, ap, ◌∙◌}
use mathlib.Core.Bool.{true, false}
use mathlib.Core.List.{List}
use native.Mathlib.Omega.{arith}
use lib.ListN.{length, take, drop}
use lib.Seq.{take_at}
use Rattle.meaning.specs.Words.{segments, highest, extra_bytes_of, rows, all_entries}
use Rattle.meaning.specs.Sound.{fault}
use Rattle.meaning.specs.Listing.{volume_in, directory_in, good_head, rows_text, refused_line, sound_text, text_by, listing}
use Rattle.walks.proofs.Heads.{sized, headed}
use Rattle.walks.proofs.Unbroken.{unbroken}
use Rattle.lines.specs.Wrote.{Wrote, WroteAtMost}
use Rattle.lines.specs.Pieces.{head_by, total_by}
use Rattle.rows.specs.Rows.{TotalsOf}
use Rattle.rows.specs.declared.Totals.{Totals}
use Rattle.lines.proofs.Writes.{both}
use Rattle.lines.proofs.Parts.{head_by_lem, total_by_lem}

-- what the first line shows
pub record HeadFits (v : ℕ) (d : List ℕ) : Type 0 where
  pub words : 512 ≤ length d
  pub volume : v ≤ 65535
  pub used : highest d ≤ 65535
  pub all : segments d ≤ 65535
  pub extra : extra_bytes_of d ≤ 65535

pub head-fits : (v : ℕ) (d : List ℕ) → fault v d ≡ 0 → HeadFits v d
head-fits v d h =
    let f = unbroken v d h in
    let s = sized v d f.size in
    let t = headed d f.header in
    record {
      words = omega arith;
      volume = s.wide;
      used = omega arith;
      all = omega arith;
      extra = omega arith;
    }

-- the three parts of a sound directory's listing
pub sound-text : {b m k a : List ℕ} {p x y z : ℕ} (v : ℕ) (d : List ℕ) {t : Totals}
    → WroteAtMost 49 b p (head_by v (highest d) (segments d) (extra_bytes_of d)) m x
    → WroteAtMost 79236 m x (rows_text (rows d)) k y
    → TotalsOf (all_entries d) t
    → WroteAtMost 34 k y (total_by t.files t.opened t.free) a z
    → WroteAtMost 79319 b p (sound_text v d) a z
unfolding sound_text
sound-text v d {t} u w s o = record {
  wrote =
      rw (head_by_lem v d, total_by_lem d, ← s.files, ← s.opened, ← s.free)
      (both (both u.wrote w.wrote) o.wrote);
  short = omega (arith, u.short, w.short, o.short);
}

-- a number that is not 0 is a refusal's
refused_by : (n v : ℕ) (d : List ℕ) → (n ≡ 0 → ⊥) → text_by n v d ≡ refused_line n
refused_by zero v d h = absurd (h refl)
refused_by (suc n) v d h = refl

pub refused-text : {b a : List ℕ} {r n : ℕ} (v : ℕ) (d : List ℕ) → n ≡ fault v d → (n ≡ 0 → ⊥)
    → WroteAtMost 14 b 0 (refused_line n) a r
    → WroteAtMost 79319 b 0 (text_by (fault v d) v d) a r
refused-text {n = n} v d e h u =
    rw (← e, refused_by n v d h) (record { wrote = u.wrote; short = omega (arith, u.short) })

pub no-fault : {b a : List ℕ} {r : ℕ} (v : ℕ) (d : List ℕ) → fault v d ≡ 0
    → WroteAtMost 79319 b 0 (sound_text v d) a r
    → WroteAtMost 79319 b 0 (text_by (fault v d) v d) a r
no-fault v d e u = rw e u

-- the words that were loaded
pub loaded : {b t a : List ℕ} {n : ℕ} → Wrote b 0 t a n → take n a ≡ t
loaded {b} {t} {a} {n} w =
    let e : length t ≡ n = omega (arith, w.ends) in
    ap (take n) w.is ∙ take_at t (drop (0 + length t) b) n e

-- version 1: the line of 17, or the listing of the words that were loaded
pub bad-head : {b a : List ℕ} {r : ℕ} (file : List ℕ) → good_head file ≡ false
    → WroteAtMost 14 b 0 (refused_line 17) a r
    → WroteAtMost 79319 b 0 (listing file) a r
unfolding listing
bad-head file h w = rw h (record { wrote = w.wrote; short = omega (arith, w.short) })

pub good-head : {b a d : List ℕ} {r v : ℕ} (file : List ℕ) → good_head file ≡ true → v ≡ volume_in file → d ≡ directory_in file
    → WroteAtMost 79319 b 0 (text_by (fault v d) v d) a r
    → WroteAtMost 79319 b 0 (listing file) a r
unfolding listing
good-head file h e f w = rw (h, ← e, ← f) w
