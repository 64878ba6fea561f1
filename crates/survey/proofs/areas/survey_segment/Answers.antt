-- `survey_segment` meets its contract: without an area the survey stays (`found_none`), and else its entries are met (`found_some`).
use mathlib.Core.Path.{sym, ◌∙◌}
use Rattle.meaning.specs.Words.{slots, upto}
use Rattle.survey.proofs.Along.{found_none, found_some}
use Rattle.survey.proofs.areas.survey_segment.Goals as goal

pub returns-then-not-has_long : goal.returns-then-not-has_long
returns-then-not-has_long c =
    let a = c.args in
    let g = a.segment.now in
    found_none a.least a.width a.spare a.given (upto (slots a.width g))
    (sym c.has_long.ensures ∙ c.if-not-has_long.true)

pub returns : goal.returns
returns c =
    let a = c.args in
    let g = a.segment.now in
    found_some g a.width a.least a.spare a.given c.requires _ c.outline_of-seen.ensures _ c.free_beside-free.ensures _
    c.survey_in-areas.ensures
