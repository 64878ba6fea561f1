-- `final_of` meets its contract: a size that fits a word is held to the tentative length, and none else is a final length (Finals). The size
-- comes back from the machine's word as it was.
use native.Mathlib.Omega.{arith}
use mir.Syntax.{w32}
use mir.ValLaws.{to_z-of_z}
use Rattle.channels.proofs.Finals.{final-within, final_above, final_past}
use Rattle.channels.proofs.final_of.Goals as goal

pub returns-in-Ok : goal.returns-in-Ok
returns-in-Ok c =
    let back = to_z-of_z w32 c.args.size c.ranges.size in
    final-within c.args.size _ _ (rw back at c.in-Ok.ensures) c.if-blocks-longest.true

pub returns-in_default : goal.returns-in_default
returns-in_default c =
    let back = to_z-of_z w32 c.args.size c.ranges.size in
    final_above c.args.size _ _ (rw back at c.in-Ok.ensures) c.if-blocks-longest.false

pub returns-in_default-2 : goal.returns-in_default-2
returns-in_default-2 c =
    let back = to_z-of_z w32 c.args.size c.ranges.size in
    final_past c.args.size _ (rw back at c.in_default.ensures) (omega arith)
