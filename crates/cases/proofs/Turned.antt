-- A number of 32 bits in two's complement, as the machine reads it.
use Rattle.std.proofs.Common.{◌≡◌, ℕ, suc, ◌-◌, arith, w32, to_z}
use Rattle.cases.specs.Records.{signed_of}

pub turned : (n : ℕ) → to_z w32 n ≡ signed_of n
unfolding signed_of
turned n = let s : 4294967296 - suc n ≡ 4294967295 - n = omega arith in rw s
