-- `wanted_of` meets its contract: each case of the enum is the meaning's case of that name.
use native.Mathlib.Omega.{arith}
use mathlib.Core.Path.{◌≡◌}
use Prim.Native.Nat.{◌+◌, ◌/◌}
use Rattle.choice.specs.Asks.{wanted_by}
use Rattle.choice.proofs.size.wanted_of.Goals as goal

pub returns-in-Longest : goal.returns-in-Longest
unfolding wanted_by
returns-in-Longest c = rw c.in-Longest.is

pub returns-in-Default : goal.returns-in-Default
unfolding wanted_by
returns-in-Default c =
    let half_up : c.div_ceil.result ≡ (c.args.longest + 1) / 2 = omega arith in
    rw (c.in-Default.is, c.max.ensures, half_up)

pub returns-in-Exact : goal.returns-in-Exact
unfolding wanted_by
returns-in-Exact c = rw c.in-Exact.is
