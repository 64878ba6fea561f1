-- `put_end` meets its contract: a header without data is the body, which is what is summed.
use mathlib.Core.List.{[]}
use Rattle.loadwrite.proofs.Parts.{end_body, a_block}
use Rattle.loadwrite.proofs.blocks.put_end.Goals as goal

pub returns : goal.returns
returns c =
    let t = c.args.transfer in
    let h = c.put_header-end.ensures in
    a_block t [] (end_body t h) c.checksum_of-check.ensures c.put.ensures
