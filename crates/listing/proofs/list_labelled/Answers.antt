-- `list_labelled` meets its contract: a number that is not 0 is a refusal's (law `refused_labelled`), and 0 that of a sound directory, whose
-- listing adds to the label's line (law `labelled_text_lem`).
use mathlib.Core.Path.{sym, ◌∙◌}
use Rattle.listing.proofs.Second.{labelled_text_lem, refused_labelled}
use Rattle.listing.proofs.list_labelled.Goals as goal

pub returns-then-number-ne0 : goal.returns-then-number-ne0
returns-then-number-ne0 c =
    let a = c.args in
    refused_labelled a.label a.v a.d.now c.fault_of-number.ensures c.if-number-ne0.true c.refused_line.ensures

pub returns : goal.returns
returns c =
    let a = c.args in
    labelled_text_lem a.label a.v a.d.now (sym c.fault_of-number.ensures ∙ c.if-number-ne0.false) c.label_line-next.ensures c.list_sound.ensures
