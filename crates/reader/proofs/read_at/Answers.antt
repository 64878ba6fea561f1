-- `read_at` meets its contract: a number that is not 0 is handed on, and else what is read is what the step gives.
use mathlib.Core.Path.{sym, ◌∙◌}
use Rattle.reader.proofs.Reading.{refused-at, entry_at, end_at}
use Rattle.reader.proofs.read_at.Goals as goal

pub returns-then-number-ne0 : goal.returns-then-number-ne0
returns-then-number-ne0 c =
    let a = c.args in
    refused-at a.words.now a.place a.number c.if-number-ne0.true

pub returns-in-Some : goal.returns-in-Some
returns-in-Some c =
    let a = c.args in
    entry_at a.words.now a.place a.number c.if-number-ne0.false
    (sym c.step_from.ensures ∙ c.in-Some.is)

pub returns-in-None : goal.returns-in-None
returns-in-None c =
    let a = c.args in
    end_at a.words.now a.place a.number c.if-number-ne0.false
    (sym c.step_from.ensures ∙ c.in-None.is)
