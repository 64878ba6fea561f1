-- What the tests of a name promise, and what is left of a delete and a rename behind their first tests.
use Rattle.std.specs.Prelude.{ℕ, ◌<◌, ◌≡◌, true, false, cond, not, List, Result, Ok, Err}
use Rattle.meaning.specs.declared.Name.{Name}
use Rattle.meaning.specs.declared.Refusal.{Refusal}
use Rattle.meaning.specs.Told.{number_of}
use Rattle.meaning.specs.Words.{protected}
use Rattle.meaning.specs.Answers.{Outcome, unless, on_row, is_none, file_of, write}
use Rattle.meaning.specs.Keys.{spared}
use Rattle.meaning.specs.Requests.{legal, success_with, emptying, renaming}

-- 7, 19, or 0 where neither is given
unfoldable pub name_refusal : Name → ℕ
name_refusal n = cond (legal n) (cond (spared n) 19 0) 7

-- a name passes its tests, or they give its refusal
abbrev pub NameTested : Result (Unit {0}) Refusal → Name → Type 0
NameTested (Ok u) n = (legal n ≡ true) × (spared n ≡ false)
NameTested (Err e) n = (number_of e ≡ name_refusal n) × (0 < number_of e)

-- delete, once the name is legal and not FILE.BAD
unfoldable pub deleted : List ℕ → Name → Outcome
deleted d name =
    on_row 13 (file_of d name) d λ r.
    unless 20 (not (protected r.entry)) d λ _.
    success_with r (write d (emptying r))

-- rename, once both names are legal and neither is FILE.BAD
unfoldable pub renamed : List ℕ → Name → Name → Outcome
renamed d old new =
    on_row 13 (file_of d old) d λ r.
    unless 20 (not (protected r.entry)) d λ _.
    unless 14 (is_none (file_of d new)) d λ _.
    success_with r (write d (renaming r new))
