-- Names and dates as a row shows them. Words up to 63,999 spell nine characters, which are written in two parts. A word that names
-- a day has its day from 1 to 31, its month up to 12 and its year in four digits, and any other word is read as day 0, so that the
-- day that is read tells the two apart. Assumes nothing.
use Prim.Native.Nat.{ℕ, ◌+◌, ◌≤◌, ◌<◌}
use mathlib.Core.Path.{◌≡◌, refl, sym, ap, ◌∙◌}
use mathlib.Core.Bool.{Bool, true, false}
use mathlib.Core.List.{List, ◌++◌}
use native.Mathlib.Omega.{arith}
use lib.ListN.{length, take, drop, set, length-set, length-drop}
use lib.Seq.{length-take-le}
use borrow.Author.Tests.{le-leb}
use Rattle.names.specs.Text.{bytes}
use Rattle.names.specs.Radix.{text_of, spells, text_of_words}
use Rattle.dates.specs.Dates.{years, day_field, month_field, names_day, day_of_word}
use Rattle.names.specs.declared.radix.NameText.{NameText}
use Rattle.dates.specs.declared.WordDay.{WordDay}
use Rattle.dates.proofs.Days.{Calendar, calendar_parts, named-parts}
use Rattle.names.proofs.Names.{last-three}
use Rattle.meaning.specs.Listing.{decimal, two_digits, date_text}
use Rattle.lines.specs.Wrote.{Wrote, WroteAtMost}
use Rattle.lines.specs.Pieces.{dotted}
use Rattle.lines.proofs.Writes.{both, and_one}

-- the nine characters of three words, and a dot in them
pub spelled-text : (a b c : ℕ) (n : NameText) → n ≡ text_of_words a b c → a ≤ 63999 → b ≤ 63999 → c ≤ 63999 → n.text ≡ text_of a b c
unfolding text_of_words spells
spelled-text a b c n e ha hb hc = rw (e, le-leb a 63999 ha, le-leb b 63999 hb, le-leb c 63999 hc)

pub dotted-text : {b k a : List ℕ} {p x z : ℕ} (t : List ℕ) → length t ≡ 9
    → Wrote b p (take 6 t) k x → Wrote (set k x 46) (x + 1) (take 3 (drop 6 t)) a z → WroteAtMost 10 b p (dotted t) a z
unfolding dotted bytes
dotted-text {k = k} {x = x} t h u w =
    let long = length-set k x 46 in
    let front = length-take-le 6 t (omega arith) in
    let back = length-drop 6 t in
    let all = last-three t h in
    let e = rw all at w in
    record { wrote = both (and_one 46 u (omega arith)) e; short = omega arith }

-- a word read as a day that is not 0, or as day 0
pub record Dated (word : ℕ) (d : WordDay) : Type 0 where
  pub day : d.day < 100
  pub month : d.month < 100
  pub year : d.year ≤ 9999
  pub text : date_text word ≡ two_digits d.day ++ bytes "-" ++ two_digits d.month ++ bytes "-" ++ decimal d.year

module _ (word : ℕ) where
  named-day : names_day word ≡ true → Calendar (day_field word) (month_field word) (years.named word)
  named-day e = calendar_parts (day_field word) (month_field word) (years.named word) (named-parts word e).0

  dated_by : (t : Bool) → names_day word ≡ t → ((day_of_word word).day ≡ 0 → ⊥) → Dated word (day_of_word word)
  unfolding day_of_word date_text years
  dated_by true e h =
      let c = named-day e in
      rw e (record { day = omega arith; month = omega arith; year = omega arith; text = rw e })
  dated_by false e h = absurd (h (rw e))

  undated_by : (t : Bool) → names_day word ≡ t → (day_of_word word).day ≡ 0 → date_text word ≡ bytes "----------"
  unfolding day_of_word date_text
  undated_by true e h = let c = named-day e in let z = rw e at h in absurd (omega arith)
  undated_by false e h = rw e

  pub dated : (d : WordDay) → d ≡ day_of_word word → (d.day ≡ 0 → ⊥) → Dated word d
  dated d e h = rw e (dated_by (names_day word) refl (λ z. h (ap (λ (x : WordDay). x.day) e ∙ z)))

  pub undated : (d : WordDay) → d ≡ day_of_word word → d.day ≡ 0 → date_text word ≡ bytes "----------"
  undated d e h = undated_by (names_day word) refl (ap (λ (x : WordDay). x.day) (sym e) ∙ h)
