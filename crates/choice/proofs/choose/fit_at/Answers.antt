-- `fit_at` meets its contract: without a long area there is no fit (`no-fit`), and else the free slots stand for the room (`fit_by`).
use mathlib.Core.Path.{sym, ◌∙◌}
use Rattle.choice.proofs.Longs.{no-fit, fit_by}
use Rattle.choice.proofs.choose.fit_at.Goals as goal

pub returns-then-not-has_long : goal.returns-then-not-has_long
returns-then-not-has_long c =
    let a = c.args in
    no-fit a.segment.now a.width a.number _ a.least (sym c.has_long.ensures ∙ c.if-not-has_long.true)

pub returns : goal.returns
returns c =
    let a = c.args in
    fit_by _ a.segment.now a.width a.number _ a.spare _ a.least c.free_in-free.ensures c.fit_in.ensures
