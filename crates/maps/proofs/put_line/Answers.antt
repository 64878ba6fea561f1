-- `put_line` meets its contract, arm by arm.
use native.Mathlib.Omega.{arith}
use Rattle.lines.proofs.Writes.{none}
use Rattle.maps.proofs.put_line.Goals as goal

pub block_line-requires : goal.block_line-requires
block_line-requires c =
    let p = rw c.in-Block.is at c.requires in
    (p.0.0, p.0.1, omega arith, omega (arith, p.1))

pub transfer_line-requires : goal.transfer_line-requires
transfer_line-requires c =
    let p = rw c.in-End.is at c.requires in
    omega (arith, p.1)

pub refused_line-requires : goal.refused_line-requires
refused_line-requires c =
    let p = rw c.in-Refused.is at c.requires in
    (omega arith, omega (arith, p.1))

pub returns-in-Gap : goal.returns-in-Gap
returns-in-Gap c =
    let p = rw c.in-Gap.is at c.requires in
    rw c.in-Gap.is (record { wrote = none _ _ (omega (arith, p.1)); short = omega arith })

pub returns-in-Block : goal.returns-in-Block
returns-in-Block c =
    rw c.in-Block.is c.block_line.ensures

pub returns-in-End : goal.returns-in-End
returns-in-End c =
    rw c.in-End.is c.transfer_line.ensures

pub returns-in-Refused : goal.returns-in-Refused
returns-in-Refused c =
    rw c.in-Refused.is c.refused_line.ensures
