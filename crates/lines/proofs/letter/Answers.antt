-- `letter` meets its contract: three kinds have a letter, which is one byte (law `one`).
use native.Mathlib.Omega.{arith}
use Rattle.names.specs.Text.{bytes}
use Rattle.lines.proofs.Writes.{one}
use Rattle.lines.proofs.letter.Goals.{in-Tentative, in-Empty, in-Permanent}
use Rattle.lines.proofs.letter.Goals as goal

pub returns : goal.returns
unfolding bytes
returns c =
    let a = c.args in
    elim c.match-kind.branch [
      | in-Tentative w ↦ rw (w.in-Tentative.is, w.out-is) (record { wrote = one a.out.now a.at 84 (omega arith); short = omega arith })
      | in-Empty w ↦ rw (w.in-Empty.is, w.out-is) (record { wrote = one a.out.now a.at 69 (omega arith); short = omega arith })
      | in-Permanent w ↦ rw (w.in-Permanent.is, w.out-is) (record { wrote = one a.out.now a.at 80 (omega arith); short = omega arith })
    ]
