-- `list_chain` meets its contract: a segment that rule 3 visits lies in the directory, and each turn lists its entries.
use native.Mathlib.Omega.{arith}
use Rattle.chain.proofs.Links.{part_word}
use Rattle.directory.proofs.Listing.{segments-start, segments-next, segments-done}
use Rattle.directory.proofs.clashes.list_chain.Goals as goal

pub loop-init : goal.loop-init
loop-init c = segments-start c.requires.0 c.requires.2

pub loop-preserved : goal.loop-preserved
loop-preserved c =
    let q = c.requires in
    rw (part_word c.args.d.now c.loop.number 1 (omega arith))
    (segments-next c.loop.invariant q.0 c.loop-test.true q.1 c.list_segment-count.ensures)

pub returns : goal.returns
returns c = segments-done c.loop.invariant c.requires.0 c.loop.auto.counter-end c.loop-test.false
