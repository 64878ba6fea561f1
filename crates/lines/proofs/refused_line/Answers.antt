-- `refused_line` meets its contract: the line feed adds to what was written (law `and_one`).
use native.Mathlib.Omega.{arith}
use Rattle.meaning.specs.Listing.{refused_line}
use Rattle.names.specs.Text.{bytes}
use Rattle.lines.proofs.Writes.{and_one}
use Rattle.lines.proofs.refused_line.Goals as goal

pub returns : goal.returns
unfolding refused_line bytes
returns c =
    let number = c.captioned-next.ensures in
    record { wrote = and_one 10 number.wrote (omega arith); short = omega arith }
