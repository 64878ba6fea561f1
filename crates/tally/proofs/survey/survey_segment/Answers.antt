-- `survey_segment` meets its contract: the tally counts what the meaning has (`survey-made`).
use Rattle.tally.proofs.Counts.{survey-made}
use Rattle.tally.proofs.survey.survey_segment.Goals as goal

pub returns-then-known : goal.returns-then-known
returns-then-known c =
    let a = c.args in
    survey-made a.v a.width a.left a.segment.now a.known c.tally_segment-t.result c.last_count.result
    _ c.tally_segment-t.ensures c.last_count.ensures (simp c.if-known.true)

pub returns-else-known : goal.returns-else-known
returns-else-known c =
    let a = c.args in
    survey-made a.v a.width a.left a.segment.now a.known c.tally_segment-t.result c.last_count.result
    _ c.tally_segment-t.ensures c.last_count.ensures (simp c.if-known.false)
