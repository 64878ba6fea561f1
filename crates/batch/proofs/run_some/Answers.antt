-- `run_some` meets its contract: `run_part` was asked for at most eight, and of eight records that is the same first part.
use mathlib.Core.Path.{◌≡◌}
use lib.ListN.{length}
use Rattle.batch.proofs.AtMost.{firsts, rests}
use Rattle.batch.proofs.run_some.Goals as goal

pub returns : goal.returns
returns c =
    let a = c.args in
    let h : length a.requests ≡ 8 = c.well_formed.1.1.0.1.0.1 in
    let g : length a.answers ≡ 8 = c.well_formed.1.1.1.1.0.1.0.1 in
    let e = c.run_part.ensures in
    let k = c.min in
    let x = firsts a.requests a.n k.result h k.ensures in
    let l = c.min-2 in
    let y = firsts a.answers a.m l.result g l.ensures in
    let z = rests a.answers a.m l.result g l.ensures in
    rw (← x, ← y, ← z) e
