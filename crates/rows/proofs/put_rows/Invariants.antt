-- `put_rows` meets its contract: the loop keeps that the text written, and that of the entries ahead, are that of all rows (laws of Shows).
use Rattle.rows.specs.Rows.{ahead}
use Rattle.rows.proofs.Shows.{Showing}
use Rattle.rows.proofs.put_rows.Given as goal

abbrev pub invariant-loop-seen : goal.invariant-loop-seen
invariant-loop-seen l =
    let it = l.seen-iterator in
    Showing l.d l.initial.out l.at l.out (ahead it.d.now it.here) l.next
