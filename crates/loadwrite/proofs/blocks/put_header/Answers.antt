-- `put_header` meets its contract: three 16-bit numbers, one after the other, the first of which is 1.
use Rattle.lines.proofs.Writes.{both}
use Rattle.loadwrite.proofs.blocks.put_header.Goals as goal

pub returns : goal.returns
returns c =
    let first = c.put_word-counted.ensures in
    let second = c.put_word-addressed.ensures in
    both (both first second) c.put_word.ensures
