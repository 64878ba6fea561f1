-- `put_short` meets its contract: its test is that of `short_block`.
use native.Mathlib.Omega.{arith}
use Rattle.loadwrite.proofs.Files.{no_short, a_short}
use Rattle.loadwrite.proofs.saving.put_short.Goals as goal

pub returns-then-count-eq0 : goal.returns-then-count-eq0
returns-then-count-eq0 c =
    let a = c.args in
    no_short a.words.now a.out.now a.address a.count a.place (omega arith) c.if-count-eq0.true

pub returns : goal.returns
returns c =
    let a = c.args in
    a_short a.words.now a.address a.count c.if-count-eq0.false c.put_block.ensures
