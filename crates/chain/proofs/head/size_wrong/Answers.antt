use Rattle.std.proofs.Common.{arith}
use Rattle.std.proofs.lemmas.Bool.Decides.{nat_tests}
use Rattle.chain.specs.Head.{size_wrong}
use Rattle.chain.proofs.head.size_wrong.Goals.{then-segments-lt1, else-segments-lt1, then-segments-gt31, else-segments-gt31, then-len-segments, else-len-segments}
use Rattle.chain.proofs.head.size_wrong.Goals as goal

pub returns-then-v-segments : goal.returns-then-v-segments
unfolding size_wrong
returns-then-v-segments c =
    elim c.if-segments-lt1.branch [
      | then-segments-lt1 w ↦ grind (arith, nat_tests)
      | else-segments-lt1 w ↦
          elim c.if-segments-gt31.branch [
            | then-segments-gt31 z ↦ grind (arith, nat_tests)
            | else-segments-gt31 z ↦
                elim c.if-len-segments.branch [ then-len-segments y ↦ grind (arith, nat_tests) | else-len-segments y ↦ grind (arith, nat_tests) ]
          ]
    ]

pub returns-else-v-segments : goal.returns-else-v-segments
unfolding size_wrong
returns-else-v-segments c = grind (arith, nat_tests)
