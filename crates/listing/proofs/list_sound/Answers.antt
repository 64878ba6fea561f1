-- `list_sound` meets its contract: the numbers of a sound directory fit its first line (law `head-fits`), and the three parts add up
-- (law `sound-text`).
use native.Mathlib.Omega.{arith}
use Rattle.listing.proofs.Whole.{HeadFits, head-fits, sound-text}
use Rattle.listing.proofs.list_sound.Goals.{Start}
use Rattle.listing.proofs.list_sound.Goals as goal

fits-at : (s : Start) → HeadFits s.args.v s.args.d.now
fits-at s = head-fits s.args.v s.args.d.now s.requires.0

pub bounds-d-2 : goal.bounds-d-2
bounds-d-2 c = omega (arith, fits-at (goal.at.bounds-d-2 c).Start)

pub overflow_cast-d : goal.overflow_cast-d
overflow_cast-d c = omega (arith, fits-at (goal.at.overflow_cast-d c).Start)

pub bounds-d-3 : goal.bounds-d-3
bounds-d-3 c = omega (arith, fits-at (goal.at.bounds-d-3 c).Start)

pub overflow_cast-d-2 : goal.overflow_cast-d-2
overflow_cast-d-2 c = omega (arith, fits-at (goal.at.overflow_cast-d-2 c).Start)

pub head_line-next-requires : goal.head_line-next-requires
head_line-next-requires c =
    let f = fits-at (goal.at.head_line-next-requires c).Start in
    (f.volume, f.used, f.all, f.extra, omega arith)

pub returns : goal.returns
returns c =
    let a = c.args in
    sound-text a.v a.d.now c.head_line-next.ensures c.put_rows-next.ensures c.total_blocks-totals.ensures
    c.total_line.ensures
