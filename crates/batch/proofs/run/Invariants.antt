-- The batch turn by turn: serving what is left gives what the whole batch gives (`Turn`), and the number is the fault's throughout.
use mathlib.Core.Path.{◌≡◌}
use lib.ListN.{length}
use Rattle.meaning.specs.Sound.{fault}
use Rattle.batch.proofs.Fold.{Turn}
use Rattle.batch.proofs.run.Given as goal

abbrev pub invariant-loop-i : goal.invariant-loop-i
invariant-loop-i l =
    (length l.requests ≡ length l.initial.answers) × (l.number ≡ fault l.v l.initial.d)
    × Turn l.v l.initial.d l.requests l.i l.d l.answers
