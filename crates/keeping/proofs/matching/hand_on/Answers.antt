-- `hand_on` meets its contract: each turn hands a row on to the next place (`HandedOn`).
use native.Mathlib.Omega.{arith}
use Rattle.std.proofs.Common.{◌≡◌, ◌+◌, ◌<◌, length}
use Rattle.keeping.proofs.Taking.{handed-first, handed_more, handed-over}
use Rattle.keeping.proofs.matching.hand_on.Goals as goal

pub loop-k-init : goal.loop-k-init
loop-k-init c = handed-first c.args.table.now _ (omega (arith, c.requires))

pub loop-k-preserved : goal.loop-k-preserved
loop-k-preserved c =
    let inside : c.loop-k.k < length c.args.table.now = omega (arith, c.loop-k-test.true, c.requires) in
    handed_more c.loop-k.invariant inside _

pub returns : goal.returns
returns c =
    let turns : c.loop-k.k ≡ c.args.place + 1 = omega (arith, c.loop-k.auto.k-end, c.loop-k-test.false) in
    handed-over c.args.table.now c.loop-k.table _ _ c.args.place c.requires (rw turns at c.loop-k.invariant)
