-- `captioned` meets its contract: its two writes add up (law `both`).
use native.Mathlib.Omega.{arith}
use Rattle.lines.proofs.Writes.{both}
use Rattle.lines.proofs.captioned.Goals as goal

pub returns : goal.returns
returns c =
    let u = c.put_bytes-next.ensures in
    let v = c.decimal.ensures in
    record { wrote = both u v.wrote; short = omega arith }
