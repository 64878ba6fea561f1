-- `is_padded` meets its contract: the bytes that the chain tries are all spaces exactly where the field is padded (law `padded_after`).
use Rattle.std.proofs.Common.{◌∙◌, eqb, rules, tests}
use Rattle.std.proofs.lemmas.Iterator.{YieldsList-from_slice}
use Rattle.std.proofs.lemmas.Iterator.Adapters.{YieldsList-from_skip_while}
use Rattle.std.proofs.lemmas.Iterator.Search.{all_from_yields_List}
use Rattle.names.specs.Radix.{in_name}
use Rattle.names.proofs.Names.{padded_after}
use Rattle.names.proofs.radix.is_padded.Goals as goal

pub returns : goal.returns
returns c =
    let bytes = c.args.bytes.now in
    all_from_yields_List (λ b. eqb b 32) _ _ _ c.all.ensures.ran
    (YieldsList-from_skip_while _ _ _ in_name _ (λ x b q k. search (rules, tests)) (YieldsList-from_slice bytes (cc)) (cc) (cc))
    (λ x b q k. search (rules, tests))
    ∙ padded_after bytes
