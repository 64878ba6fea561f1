-- `row_date` meets its contract: an empty entry shows the word 0.
use Rattle.lines.specs.Pieces.{row_date}
use Rattle.lines.proofs.row_date.Goals as goal

pub returns-then-is_empty : goal.returns-then-is_empty
unfolding row_date
returns-then-is_empty c = rw (← c.is_empty.ensures, c.if-is_empty.true)

pub returns-else-is_empty : goal.returns-else-is_empty
unfolding row_date
returns-else-is_empty c = rw (← c.is_empty.ensures, c.if-is_empty.false)
