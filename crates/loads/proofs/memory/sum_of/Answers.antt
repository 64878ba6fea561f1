-- `sum_of` meets its contract: a sum reduced at each byte is that of all bytes, reduced (law `sum_folds`).
use native.Mathlib.Omega.{arith}
use Rattle.std.proofs.Common.{rules, ◌≡◌, ◌+◌, ◌%◌}
use Rattle.std.specs.List.{fold}
use Rattle.loads.specs.Blocks.{byte_sum}
use Rattle.loads.proofs.Bytes.{sum_folds}
use Rattle.loads.proofs.memory.sum_of.Goals as goal

pub returns : goal.returns
returns c =
    let e : fold (λ k b. (k + b) % 256) 0 c.args.bytes.now ≡ byte_sum c.args.bytes.now % 256 = omega (arith, sum_folds c.args.bytes.now 0 (omega arith)) in
    rw (← e) (search rules)
