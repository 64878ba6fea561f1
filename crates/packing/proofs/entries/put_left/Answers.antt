-- `put_left` meets its contract: the array begins with the words of the empty entry, and where nothing is left over none are written.
use Rattle.segment.proofs.Writes.{none_written}
use Rattle.packing.proofs.Outs.{left-none, left-some}
use Rattle.packing.proofs.entries.put_left.Goals as goal

pub returns-then-free-block : goal.returns-then-free-block
returns-then-free-block c =
    let a = c.args in
    rw (left-none a.width a.free a.block c.if-free-block.true) (none_written a.out.now a.at)

pub put_words-requires : goal.put_words-requires
put_words-requires c =
    rw (left-some c.args.width c.args.free c.args.block c.if-free-block.false c.requires.0 c.requires.1) c.requires.4

pub returns : goal.returns
returns c =
    rw (← left-some c.args.width c.args.free c.args.block c.if-free-block.false c.requires.0 c.requires.1)
    c.put_words.ensures
