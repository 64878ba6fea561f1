-- `word_of` meets its contract: the slot ends within the 507 words, so that nothing wraps.
use native.Mathlib.Omega.{arith}
use mathlib.Core.Path.{refl}
use Rattle.cursor.proofs.Stepping.{slot-fits}
use Rattle.cursor.proofs.word_of.Goals as goal

pub overflow_mul-result : goal.overflow_mul-result
overflow_mul-result c = let x = slot-fits c.args.width c.args.slot c.requires.0 c.requires.1 in omega arith

pub overflow_add-result : goal.overflow_add-result
overflow_add-result c = let x = slot-fits c.args.width c.args.slot c.requires.0 c.requires.1 in omega arith

pub returns : goal.returns
returns c = let x = slot-fits c.args.width c.args.slot c.requires.0 c.requires.1 in (refl, omega arith)
