-- `row` meets its contract: a reader that was opened and moved reads the row (law `row_is`).
use Rattle.reader.specs.Read.{Answers, read_at, opened, moved_by}
use Rattle.reader.specs.declared.Reader.{Reader}
use Rattle.reader.proofs.Reading.{row_is}
use Rattle.reader.proofs.row.Goals as goal

pub returns : goal.returns
returns c =
    let a = c.args in
    let Read = λ (r : Reader). Answers c.next.result r.number (read_at r.words.now r.cursor r.number) in
    let moved : Read (moved_by c.open.result a.count) = rw c.moved.ensures at c.next.ensures in
    let opened : Read (moved_by (opened a.words a.v) a.count) = rw c.open.ensures at moved in
    rw (row_is a.v a.words.now a.count) at opened
