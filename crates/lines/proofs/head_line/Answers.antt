-- `head_line` meets its contract: its five writes add up, bracketed as the meaning has them (laws `and_both`, `and_one`).
use native.Mathlib.Omega.{arith}
use lib.ListN.{length-set}
use Rattle.lines.specs.Pieces.{head_by}
use Rattle.names.specs.Text.{bytes}
use Rattle.meaning.specs.Listing.{decimal}
use Rattle.lines.proofs.Writes.{and_both, and_one}
use Rattle.lines.proofs.head_line.Goals as goal

pub shape_of-out : goal.shape_of-out
shape_of-out c = rw length-set (omega arith)

pub returns : goal.returns
unfolding head_by bytes
returns c =
    let a = c.args in
    let v = c.captioned-next.ensures in
    let highest = c.captioned-next-2.ensures in
    let segments = c.captioned-next-3.ensures in
    let extra = c.captioned-next-4.ensures in
    let two = and_both (bytes " SEGMENTS ") (decimal a.highest) v.wrote highest.wrote in
    let three = and_both (bytes " OF ") (decimal a.segments) two segments.wrote in
    let four = and_both (bytes " EXTRA ") (decimal a.extra) three extra.wrote in
    record { wrote = and_one 10 four (omega arith); short = omega arith }
