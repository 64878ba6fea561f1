-- `measure` meets its contract: a turn goes by its scan's answer, and right links keep it inside the slice.
use Rattle.std.proofs.Common.{◌≡◌, ◌+◌, ◌&&◌, ◌∙◌, eqb, get_or, arith}
use Rattle.std.proofs.lemmas.Bool.Decides.{nat_tests}
use Rattle.segment.proofs.Scanning.{sum_bounded}
use Rattle.walks.proofs.Words.{base}
use Rattle.chain.proofs.Links.{part_word}
use Rattle.chain.proofs.Measuring.{starts, broken, goes, ends}
use Rattle.chain.proofs.measure.Goals.{then-joined, else-joined}
use Rattle.chain.proofs.measure.Goals as goal

pub loop-init : goal.loop-init
loop-init c = starts c.args.v c.args.d.now c.requires

pub slice_bounds-words-end : goal.slice_bounds-words-end
slice_bounds-words-end c = omega arith

pub returns-in_default : goal.returns-in_default
returns-in_default c = broken c.loop.invariant c.scan_slots.result c.loop-test.true c.scan_slots.ensures.is c.in_default.is

pub overflow_add-block-in-loop : goal.overflow_add-block-in-loop
overflow_add-block-in-loop c =
    let t = sum_bounded _ _ _ c.in-Some.is c.scan_slots.ensures.bounds in
    omega arith

pub loop-preserved : goal.loop-preserved
loop-preserved c =
    let t = sum_bounded _ _ _ c.in-Some.is c.scan_slots.ensures.bounds in
    let n = goes c.loop.invariant c.scan_slots.result c.loop-test.true c.scan_slots.ensures.is c.requires c.in-Some.sum c.in-Some.is t.1 in
    let d = c.args.d.now in
    let s = c.loop.segment in
    let e : c.if-joined.joined ≡ (c.loop.joined && eqb (get_or d (base s + 4) 0) c.loop.block) =
    elim c.if-joined.branch [
      | then-joined w ↦ w.joined-is ∙ rw (w.if-joined.true, part_word d s 4 (omega arith))
      | else-joined w ↦ w.joined-is ∙ rw w.if-joined.false
    ] in
    rw (part_word d s 1 (omega arith), e) n

pub returns-then-block-v : goal.returns-then-block-v
returns-then-block-v c = let e = ends c.loop.invariant c.loop-test.false in grind (arith, nat_tests)

pub returns-else-joined-2 : goal.returns-else-joined-2
returns-else-joined-2 c = let e = ends c.loop.invariant c.loop-test.false in grind (arith, nat_tests)
