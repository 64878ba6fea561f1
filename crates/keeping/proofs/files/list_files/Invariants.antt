-- `list_files` meets its contract: the loop keeps `Gathering`, that the files in the table and those of the segments ahead are together all.
use Prim.Native.Nat.{◌-◌}
use lib.ListN.{length}
use Rattle.keeping.proofs.Gathering.{Gathering}
use Rattle.keeping.proofs.files.list_files.Given as goal

abbrev pub invariant-loop : goal.invariant-loop
invariant-loop l = Gathering l.d (length l.initial.table) (l.end - l.counter) l.number l.table l.count
