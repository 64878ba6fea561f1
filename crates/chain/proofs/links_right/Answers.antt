-- `links_right` meets its contract: each return is one test of a turn that fails, and the last turn's link is 0 just where the walk is right.
use Rattle.std.proofs.Common.{◌≡◌, ◌+◌, ◌-◌, ◌<◌, arith}
use Rattle.std.proofs.lemmas.Bool.Decides.{nat_tests}
use Rattle.meaning.specs.Words.{highest}
use Rattle.chain.proofs.Links.{linked_step, linked-end}
use Rattle.chain.proofs.links_right.Goals.{then-d-base-via-then-d-base, then-d-base-via-else-d-base+then-d-base-2}
use Rattle.chain.proofs.links_right.Goals as goal

pub returns-then-segment-lt1 : goal.returns-then-segment-lt1
returns-then-segment-lt1 c =
    let d = c.args.d.now in
    let some : 0 < highest d - c.loop.counter = omega arith in
    let turn = linked_step (highest d - c.loop.counter) d c.loop.segment some in
    grind (arith, nat_tests)

pub returns-then-d-base : goal.returns-then-d-base
returns-then-d-base c =
    let d = c.args.d.now in
    let some : 0 < highest d - c.loop.counter = omega arith in
    let turn = linked_step (highest d - c.loop.counter) d c.loop.segment some in
    elim c.then-d-base.branch [
      | then-d-base-via-then-d-base w ↦ grind (arith, nat_tests)
      | then-d-base-via-else-d-base+then-d-base-2 w ↦ grind (arith, nat_tests)
    ]

pub loop-preserved : goal.loop-preserved
loop-preserved c =
    let d = c.args.d.now in
    let some : 0 < highest d - c.loop.counter = omega arith in
    let turn = linked_step (highest d - c.loop.counter) d c.loop.segment some in
    let fewer : highest d - (c.loop.counter + 1) ≡ highest d - c.loop.counter - 1 = omega arith in
    rw fewer (grind (arith, nat_tests))

pub returns : goal.returns
returns c =
    let d = c.args.d.now in
    let last = linked-end (highest d - c.loop.counter) d c.loop.segment (omega arith) in
    grind (arith, nat_tests)
