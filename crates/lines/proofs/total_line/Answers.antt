-- `total_line` meets its contract: its four writes add up, bracketed as the meaning has them (laws `and_both`, `and_one`).
use native.Mathlib.Omega.{arith}
use lib.ListN.{length-set}
use Rattle.lines.specs.Pieces.{total_by}
use Rattle.names.specs.Text.{bytes}
use Rattle.meaning.specs.Listing.{decimal}
use Rattle.lines.proofs.Writes.{and_both, and_one}
use Rattle.lines.proofs.total_line.Goals as goal

pub shape_of-out : goal.shape_of-out
shape_of-out c = rw length-set (omega arith)

pub returns : goal.returns
unfolding total_by bytes
returns c =
    let a = c.args in
    let files = c.captioned-next.ensures in
    let opened = c.captioned-next-2.ensures in
    let free = c.captioned-next-3.ensures in
    let two = and_both (bytes " OPEN ") (decimal a.opened) files.wrote opened.wrote in
    let three = and_both (bytes " FREE ") (decimal a.free) two free.wrote in
    record { wrote = and_one 10 three (omega arith); short = omega arith }
