-- `is_beyond` meets its contract, case by case.
use native.Mathlib.Omega.{arith}
use Rattle.std.proofs.lemmas.Grind.{common_steps}
use Rattle.repaired.specs.Kept.{beyond}
use Rattle.repair.proofs.is_beyond.Goals as goal

pub returns-in_default : goal.returns-in_default
unfolding beyond
returns-in_default c = grind (arith, common_steps)

pub returns-in_default-2 : goal.returns-in_default-2
unfolding beyond
returns-in_default-2 c = grind (arith, common_steps)

pub returns-in-1-to-3 : goal.returns-in-1-to-3
unfolding beyond
returns-in-1-to-3 c = grind (arith, common_steps)

pub returns-in-1-to-3-2 : goal.returns-in-1-to-3-2
unfolding beyond
returns-in-1-to-3-2 c = grind (arith, common_steps)
