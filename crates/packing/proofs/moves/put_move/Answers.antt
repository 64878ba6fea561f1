-- `put_move` meets its contract: nothing is written where no move is needed, else the array's three words.
use Rattle.segment.proofs.Writes.{none_written}
use Rattle.packing.proofs.Outs.{move-none, move_some}
use Rattle.packing.proofs.moves.put_move.Goals as goal

pub returns-then-stands-place : goal.returns-then-stands-place
returns-then-stands-place c = rw (move-none _ _ _ c.then-stands-place.either) (none_written _ _)

pub put_words-requires : goal.put_words-requires
put_words-requires c = rw (move_some _ _ _ c.if-stands-place.false c.if-blocks-eq0.false) at c.requires.2

pub returns : goal.returns
returns c = rw (move_some _ _ _ c.if-stands-place.false c.if-blocks-eq0.false) c.put_words.ensures
