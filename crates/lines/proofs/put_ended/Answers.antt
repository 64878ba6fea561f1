-- `put_ended` meets its contract: one byte adds to what was written (law `and_one`).
use native.Mathlib.Omega.{arith}
use Rattle.lines.proofs.Writes.{and_one}
use Rattle.lines.proofs.put_ended.Goals as goal

pub returns : goal.returns
returns c =
    let w = c.put_bytes-next.ensures in
    record { wrote = and_one c.args.end w (omega arith); short = omega (arith, w.ends) }
