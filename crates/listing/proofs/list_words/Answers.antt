-- `list_words` meets its contract: a number that is not 0 is a refusal's (law `refused-text`), and 0 that of a sound directory.
use mathlib.Core.Path.{sym, ◌∙◌}
use Rattle.listing.proofs.Whole.{refused-text, no-fault}
use Rattle.listing.proofs.list_words.Goals as goal

pub returns-then-number-ne0 : goal.returns-then-number-ne0
returns-then-number-ne0 c =
    let a = c.args in
    refused-text a.v a.d.now c.fault_of-number.ensures c.if-number-ne0.true c.refused_line.ensures

pub returns : goal.returns
returns c =
    let a = c.args in
    no-fault a.v a.d.now (sym c.fault_of-number.ensures ∙ c.if-number-ne0.false) c.list_sound.ensures
