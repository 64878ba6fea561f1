-- `open_chain` meets its contract: the loop keeps `Seeking`, that the segments ahead have a tentative entry exactly where all have. Right links
-- keep it inside the slice.
use native.Mathlib.Omega.{arith}
use Prim.Native.Nat.{◌≤◌, ◌<◌}
use Rattle.meaning.specs.Words.{highest}
use Rattle.tally.proofs.Opens.{seeking, none_open, open_here, seek-on}
use Rattle.tally.proofs.open.open_chain.Goals as goal

pub loop-init : goal.loop-init
loop-init c = seeking c.args.words.now c.requires

pub returns-then-open_in : goal.returns-then-open_in
returns-then-open_in c =
    let more : c.loop.counter < highest c.args.words.now = omega arith in
    open_here c.loop.invariant more _ c.open_in.ensures c.if-open_in.true

pub loop-preserved : goal.loop-preserved
loop-preserved c =
    let more : c.loop.counter < highest c.args.words.now = omega arith in
    seek-on c.loop.invariant more _ c.open_in.ensures c.requires c.if-open_in.false

pub returns : goal.returns
returns c = let over : highest c.args.words.now ≤ c.loop.counter = omega arith in none_open c.loop.invariant over
