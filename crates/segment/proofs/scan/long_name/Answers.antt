-- `long_name` meets its contract: the first of the three words that is too large makes it true, and the last decides.
use Prim.Native.Nat.{◌<◌}
use borrow.Author.Tests.{lt-ltb, le-ltb}
use mathlib.Core.Path.{◌∙◌}
use native.Mathlib.Omega.{arith}
use Rattle.meaning.specs.Sound.{long_name}
use Rattle.segment.proofs.scan.long_name.Goals.{then-name-gt63999, else-name-gt63999}
use Rattle.segment.proofs.scan.long_name.Goals as goal

pub returns-then-name-gt63999-2 : goal.returns-then-name-gt63999-2
unfolding long_name
returns-then-name-gt63999-2 c =
    elim c.if-name-gt63999.branch [
      | then-name-gt63999 w ↦ w.t-3-is ∙ simp (lt-ltb _ _ w.if-name-gt63999.true)
      | else-name-gt63999 w ↦
          let second : 63999 < c.args.name.second = omega arith in
          w.t-3-is ∙ simp (le-ltb _ _ w.if-name-gt63999.false, lt-ltb _ _ second)
    ]

pub returns-else-name-gt63999-2 : goal.returns-else-name-gt63999-2
unfolding long_name
returns-else-name-gt63999-2 c = rw (le-ltb _ _ c.if-name-gt63999-2.false.0, le-ltb _ _ c.if-name-gt63999-2.false.1)
