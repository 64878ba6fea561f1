-- `two_digits` meets its contract: it is two writes of one byte (law `two`).
use Prim.Native.Nat.{◌+◌, ◌/◌, ◌%◌}
use native.Mathlib.Omega.{arith}
use lib.ListN.{length-set}
use Rattle.meaning.specs.Listing.{two_digits}
use Rattle.lines.proofs.Writes.{two}
use Rattle.lines.proofs.two_digits.Goals as goal

pub bounds-out-at-2 : goal.bounds-out-at-2
bounds-out-at-2 c = omega (arith, length-set c.args.out.now c.args.at (48 + c.args.n / 10))

pub returns : goal.returns
unfolding two_digits
returns c = let a = c.args in
    record { wrote = two a.out.now a.at (48 + a.n / 10) (48 + a.n % 10) c.requires.1; short = omega arith }
