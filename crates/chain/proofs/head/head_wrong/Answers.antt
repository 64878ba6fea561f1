use Rattle.std.proofs.Common.{arith}
use Rattle.std.proofs.lemmas.Bool.Decides.{nat_tests}
use Rattle.meaning.specs.Sound.{bad2}
use Rattle.chain.proofs.head.head_wrong.Goals.{then-d-segments, else-d-segments, then-highest-lt1, else-highest-lt1, then-segments-highest, else-segments-highest}
use Rattle.chain.proofs.head.head_wrong.Goals as goal

pub returns-then-extra_bytes-ne0 : goal.returns-then-extra_bytes-ne0
unfolding bad2
returns-then-extra_bytes-ne0 c =
    elim c.if-d-segments.branch [
      | then-d-segments w ↦ grind (arith, nat_tests)
      | else-d-segments w ↦
          elim c.if-highest-lt1.branch [
            | then-highest-lt1 z ↦ grind (arith, nat_tests)
            | else-highest-lt1 z ↦
                elim c.if-segments-highest.branch [ then-segments-highest y ↦ grind (arith, nat_tests) | else-segments-highest y ↦ grind (arith, nat_tests) ]
          ]
    ]

pub returns-else-extra_bytes-ne0 : goal.returns-else-extra_bytes-ne0
unfolding bad2
returns-else-extra_bytes-ne0 c = grind (arith, nat_tests)
