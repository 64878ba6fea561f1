-- `renew_segment` meets its contract: the copy is mended where it stands (`renewed`).
use borrow.Author.Rules.{rules}
use native.Mathlib.Omega.{arith}
use Rattle.mending.proofs.Renewing.{renewed}
use Rattle.mending.proofs.anew.renew_segment.Goals as goal

pub returns : goal.returns
returns c =
    let a = c.args in
    let m = c.mend_segment in
    renewed a.v a.width a.start a.number a.d.now a.t.now _ _ m.result c.requires.2 (omega (arith, c.requires)) c.copy_from_slice.ensures.after
    m.ensures (search rules)
