-- `write_tidied` meets its contract: the loop keeps `Tidying`, that what finishes the entries still ahead finishes all.
use Rattle.segment.specs.Entries.{ahead}
use Rattle.tidy.specs.OpenRun.{run_of}
use Rattle.tidy.proofs.Tidying.{Tidying}
use Rattle.tidy.proofs.tidy.write_tidied.Given as goal

abbrev pub invariant-loop-entry : goal.invariant-loop-entry
invariant-loop-entry l =
    let it = l.entry-iterator in
    Tidying l.segment l.initial.out l.width l.out (ahead it.width it.rest.now) l.place (run_of l.run)
