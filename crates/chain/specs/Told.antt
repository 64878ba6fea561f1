-- What code hands on of a check: that nothing is wrong, or the fault by its name; and the number that either comes to.
use Rattle.std.specs.Prelude.{ℕ, Result, Ok, Err}
use Rattle.chain.specs.declared.fault.Fault.{Fault}
use Rattle.chain.specs.declared.fault.Fault.TheVariants.{Size, Header, Links, Slots, Blocks, Clash}

-- a fault's number is that of its rule
abbrev pub number_of : Fault → ℕ
number_of Size = 1
number_of Header = 2
number_of Links = 3
number_of Slots = 4
number_of Blocks = 5
number_of Clash = 6

abbrev pub told : Result (Unit {0}) Fault → ℕ
told (Ok u) = 0
told (Err f) = number_of f
