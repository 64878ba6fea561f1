-- `row_end` meets its contract: a byte, the date and a byte add up (laws `one`, `both`, `and_one`).
use native.Mathlib.Omega.{arith}
use lib.ListN.{length-set}
use Rattle.names.specs.Text.{bytes}
use Rattle.lines.specs.Pieces.{row_end}
use Rattle.lines.proofs.Writes.{one, both, and_one}
use Rattle.lines.proofs.row_end.Goals as goal

pub date_text-next-requires : goal.date_text-next-requires
date_text-next-requires c = rw length-set (omega arith)

pub bounds-out-next : goal.bounds-out-next
bounds-out-next c =
    let a = c.args in
    omega (arith, length-set a.out.now a.at 32)

pub shape_of-out : goal.shape_of-out
shape_of-out c =
    let a = c.args in
    omega (arith, length-set a.out.now a.at 32, length-set c.date_text-next.new.out c.date_text-next.result 10)

pub returns : goal.returns
unfolding row_end bytes
returns c =
    let a = c.args in
    let u = one a.out.now a.at 32 (omega arith) in
    let v = both u c.date_text-next.ensures.wrote in
    rw (← c.row_date.ensures) (record { wrote = and_one 10 v (omega arith); short = omega arith })
