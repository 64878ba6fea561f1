-- `are_label_bytes` meets its contract: the chain tries each byte, as the definition does (law `label_bytes_all`).
use Rattle.std.proofs.Common.{◌∙◌, rules, tests}
use Rattle.std.proofs.lemmas.Iterator.{YieldsList-from_slice}
use Rattle.std.proofs.lemmas.Iterator.Search.{all_from_yields_List}
use Rattle.label.specs.Labels.{is_label_byte}
use Rattle.label.proofs.Labels.{label_bytes_all}
use Rattle.label.proofs.are_label_bytes.Goals as goal

pub returns : goal.returns
unfolding is_label_byte
returns c =
    let bytes = c.args.bytes.now in
    all_from_yields_List is_label_byte _ _ _ c.all.ensures.ran (YieldsList-from_slice bytes (cc)) (λ x b q k. search (rules, tests))
    ∙ label_bytes_all bytes
