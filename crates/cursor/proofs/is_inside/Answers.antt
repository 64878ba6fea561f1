-- `is_inside` meets its contract: its four tests are the definition's, in order; where there is a segment the words of a slot can be read.
use Rattle.std.proofs.Common.{arith, sym, ◌∙◌}
use Rattle.std.proofs.lemmas.Bool.Decides.{nat_tests}
use Rattle.cursor.specs.Cursor.{inside}
use Rattle.cursor.proofs.Stepping.{segment-is}
use Rattle.cursor.proofs.is_inside.Goals.{then-cursor-ge1, else-cursor-ge1, then-is_segment, else-is_segment}
use Rattle.cursor.proofs.is_inside.Goals as goal

pub width_of-requires : goal.width_of-requires
width_of-requires c =
    let s = segment-is c.args.d.now c.args.cursor.seg (sym c.is_segment.ensures ∙ c.if-cursor-ge1.true.0) in
    omega arith

pub returns-then-cursor-width_of : goal.returns-then-cursor-width_of
unfolding inside
returns-then-cursor-width_of c =
    elim c.if-cursor-ge1.branch [
      | then-cursor-ge1 w ↦ let most = rw w.width_of.ensures at w.value-is in grind (arith, nat_tests)
      | else-cursor-ge1 w ↦ grind (arith, nat_tests)
    ]

pub returns-else-cursor-width_of : goal.returns-else-cursor-width_of
unfolding inside
returns-else-cursor-width_of c =
    elim c.if-cursor-ge1.branch [
      | then-cursor-ge1 w ↦ let most = rw w.width_of.ensures at w.value-is in grind (arith, nat_tests)
      | else-cursor-ge1 w ↦ elim c.if-is_segment.branch [ then-is_segment z ↦ grind (arith, nat_tests) | else-is_segment z ↦ grind (arith, nat_tests) ]
    ]
