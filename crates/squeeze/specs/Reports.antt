-- What `squeeze` promises: its report, the directory's words and the lent list are those of the meaning's squeeze.
use Rattle.std.specs.Prelude.{ℕ, zero, suc, ◌*◌, ◌≡◌, List, length, ltb, Result, Ok, Err}
use Rattle.meaning.specs.Words.{capacity}
use Rattle.meaning.specs.Sound.{rule}
use Rattle.squeezed.specs.Squeeze.{Squeezed, moves, new_parts, has_tentative, overfull}
use Rattle.squeeze.specs.declared.Report.{Report}
use Rattle.squeeze.specs.declared.Refusal.{Refusal}
use Rattle.squeeze.specs.declared.Refusal.TheVariants.{Tentative, ShortList, Overfull}

pub record Reports (r : Report) (words list : List ℕ) (s : Squeezed) : Type 0 where
  pub number : r.number ≡ s.number
  pub count : r.count ≡ s.count
  pub after : words ≡ s.words
  pub listed : list ≡ s.list

-- the number of each refusal, as `judged` gives it
abbrev pub number_of : Refusal → ℕ
number_of Tentative = 21
number_of ShortList = 24
number_of Overfull = 26

-- what code hands on is told as a report
abbrev pub told : Result ℕ Refusal → Report
told (Ok count) = record { number = 0; count = count }
told (Err r) = record { number = number_of r; count = 0 }

-- the report of a sound directory, with so many words of room
abbrev pub report_of : ℕ → ℕ → Report
report_of zero count = record { number = 0; count = count }
report_of (suc n) count = record { number = suc n; count = 0 }

unfoldable pub judged : ℕ → List ℕ → ℕ → Report
judged v d room =
    report_of
    (rule 21 (has_tentative d) λ _.
    rule 24 (ltb room (3 * length (moves d))) λ _.
    rule 26 (overfull (capacity d) (new_parts v d)) λ _.
    0)
    (length (moves d))
