-- `row_start` meets its contract: its three writes add up (laws `and_one`, `both`), and words that spell are asked only where there is a
-- -- name.
use native.Mathlib.Omega.{arith}
use lib.ListN.{length-set}
use mathlib.Core.Path.{sym, ◌∙◌}
use Rattle.names.specs.Text.{bytes}
use Rattle.lines.specs.Pieces.{row_start}
use Rattle.lines.proofs.Writes.{both, and_one}
use Rattle.lines.proofs.row_start.Goals as goal

pub put_bytes-requires : goal.put_bytes-requires
put_bytes-requires c = rw length-set (omega arith)

pub shape_of-out-then-is_empty : goal.shape_of-out-then-is_empty
shape_of-out-then-is_empty c =
    let l = c.letter-space in
    omega (arith, length-set l.new.out l.result 32)

pub returns-then-is_empty : goal.returns-then-is_empty
unfolding row_start bytes
returns-then-is_empty c =
    let u = c.letter-space.ensures in
    let v = and_one 32 u.wrote (omega arith) in
    let w = c.put_bytes.ensures in
    rw (← c.is_empty.ensures, c.if-is_empty.true) (record { wrote = both v w; short = omega arith })

pub name_text-requires : goal.name_text-requires
name_text-requires c =
    let e = sym c.is_empty.ensures ∙ c.if-is_empty.false in
    let s = c.requires.0 in
    (s.first e, s.second e, s.extension e, rw length-set (omega arith))

pub shape_of-out : goal.shape_of-out
shape_of-out c =
    let l = c.letter-space in
    omega (arith, length-set l.new.out l.result 32)

pub returns : goal.returns
unfolding row_start bytes
returns c =
    let u = c.letter-space.ensures in
    let v = and_one 32 u.wrote (omega arith) in
    let w = c.name_text.ensures in
    rw (← c.is_empty.ensures, c.if-is_empty.false) (record { wrote = both v w.wrote; short = omega arith })
