-- `pass` meets its contract: one byte is passed (law `one_passed`), or what `open_block` passes.
use Rattle.pieces.proofs.Turns.{one_passed}
use Rattle.pieces.proofs.taking.pass.Goals as goal

pub returns-in_default : goal.returns-in_default
returns-in_default c =
    let h = c.requires in
    one_passed _ _ h.1 h.3 c.one.ensures.0 c.one.ensures.1
