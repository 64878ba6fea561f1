-- `put_full` meets its contract: the loop keeps that the first `i` blocks are written (law `full_more`).
use native.Mathlib.Omega.{arith}
use Prim.Native.Nat.{◌+◌, ◌*◌}
use mathlib.Core.Path.{refl}
use Rattle.loadwrite.proofs.Files.{length_data, no_full, full_more}
use Rattle.loadwrite.proofs.saving.put_full.Goals as goal

pub loop-i-init : goal.loop-i-init
loop-i-init c =
    let a = c.args in
    (omega arith, no_full a.words.now a.out.now a.address a.place (omega arith))

pub loop-i-preserved : goal.loop-i-preserved
loop-i-preserved c =
    let a = c.args in
    let m = a.words.now in
    let l = c.loop-i in
    let p = c.put_block-next.ensures in
    (omega (arith, p.ends, l.invariant.0, length_data m (a.address + l.i * 128) 128), full_more m a.address l.i _ refl l.invariant.1 p)
