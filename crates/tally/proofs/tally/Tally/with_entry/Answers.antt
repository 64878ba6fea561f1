-- `with_entry` meets its contract: past an entry that is no file nothing is counted, and a file is counted at the place where it goes, which lies
-- no higher than where it stands.
use native.Mathlib.Omega.{arith}
use Rattle.squeezed.proofs.Steps.{place-bounds}
use Rattle.tally.proofs.tally.Tally.with_entry.Goals as goal

pub with_file-requires : goal.with_file-requires
with_file-requires c =
    let a = c.args in
    omega (arith, c.place_at.ensures, place-bounds a.stands a.self.free a.entry.now.words.now c.requires.low)
