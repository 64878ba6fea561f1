-- `step_from` meets its contract. The loop's invariant is `Stepping`: the rows from here on, of the segments still to be asked, are the
-- rows from the cursor on.
use Rattle.cursor.proofs.Stepping.{Stepping}
use Rattle.cursor.proofs.step_from.Given as goal

abbrev pub invariant-loop : goal.invariant-loop
invariant-loop l = Stepping l.d l.initial.here l.counter l.here
