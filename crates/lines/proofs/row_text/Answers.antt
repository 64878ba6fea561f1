-- `row_text` meets its contract: its four writes add up (law `both`); each text is named, which spares antt to write it out.
use native.Mathlib.Omega.{arith}
use mathlib.Core.List.{◌++◌}
use Rattle.meaning.specs.Listing.{six_wide}
use Rattle.lines.specs.Pieces.{row_start, row_by}
use Rattle.lines.proofs.Writes.{both}
use Rattle.lines.proofs.row_text.Goals as goal

pub returns : goal.returns
unfolding row_by
returns c =
    let a = c.args in
    let start = row_start a.kind a.a a.b a.c in
    let u = c.row_start-next.ensures in
    let v = c.six_wide-next.ensures in
    let w = c.six_wide-next-2.ensures in
    let x = c.row_end.ensures in
    let front = both {l = start} u.wrote v.wrote in
    let numbers = both {l = start ++ six_wide a.first} front w.wrote in
    record { wrote = both {l = start ++ six_wide a.first ++ six_wide a.blocks} numbers x.wrote; short = omega arith }
