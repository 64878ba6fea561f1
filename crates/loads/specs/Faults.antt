-- The numbers of the faults of a block.
use Rattle.std.specs.Prelude.{ℕ, ⊤, Result, Ok, Err}
use Rattle.loads.specs.declared.Fault.{Fault}
use Rattle.loads.specs.declared.Fault.TheVariants.{Start, Count, Outside, Short, Checksum}

abbrev pub number_of : Fault → ℕ
number_of Start = 27
number_of Count = 28
number_of Outside = 29
number_of Short = 30
number_of Checksum = 31

-- what a test says: 0 where it passes, or the number of its fault
abbrev pub number_said : Result ⊤ Fault → ℕ
number_said (Ok u) = 0
number_said (Err f) = number_of f
