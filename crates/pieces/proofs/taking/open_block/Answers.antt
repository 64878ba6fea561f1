-- `open_block` meets its contract: a header is passed at once (law `header_passed`), and else one byte (law `one_passed`).
use native.Mathlib.Omega.{arith}
use Rattle.pieces.proofs.Turns.{one_passed}
use Rattle.pieces.proofs.Headers.{header_passed}
use Rattle.pieces.proofs.taking.open_block.Goals as goal

pub returns-in-Some : goal.returns-in-Some
returns-in-Some c =
    header_passed _ (record { sum = omega (arith, c.well_formed); stored = omega (arith, c.well_formed); offset = omega (arith, c.well_formed) })
    c.requires.2 c.in-Some.ensures c.past_header.ensures

pub returns-in-None : goal.returns-in-None
returns-in-None c =
    let h = c.requires in
    one_passed _ _ h.1 (rw h.2) c.one.ensures.0 c.one.ensures.1
