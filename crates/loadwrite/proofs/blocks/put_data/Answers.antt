-- `put_data` meets its contract: at an odd address the first byte goes by itself (laws `data_none`, `data_first`).
use native.Mathlib.Omega.{arith}
use Rattle.loadwrite.proofs.Parts.{data_none, data_first}
use Rattle.loadwrite.proofs.blocks.put_data.Goals as goal

pub returns-then-count-eq0 : goal.returns-then-count-eq0
returns-then-count-eq0 c =
    let a = c.args in
    data_none a.words.now a.out.now a.address a.count a.place (omega (arith, c.requires.2)) c.if-count-eq0.true

pub returns : goal.returns
returns c =
    let a = c.args in
    let some = c.if-count-eq0.false in
    data_first a.words.now a.address a.count some c.byte_at.ensures c.put-next.ensures
    c.put_even-2.ensures
