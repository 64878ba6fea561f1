-- `six_wide` meets its contract: the six bytes before the end of the number are the number six wide (law `six-before`).
use native.Mathlib.Omega.{arith}
use Rattle.lines.proofs.Digits.{six-before, six-long}
use Rattle.lines.proofs.six_wide.Goals as goal

pub returns : goal.returns
returns c =
    let d = c.decimal-end in
    let n = c.args.n in
    let h = c.requires.0 in
    let w = rw (six-before d.new.out n d.result h d.ensures.wrote) at c.put_bytes.ensures in
    record { wrote = w; short = omega (arith, six-long n h) }
