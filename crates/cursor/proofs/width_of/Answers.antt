-- `width_of` meets its contract: a word has 16 bits, so that the sum fits.
use native.Mathlib.Omega.{arith}
use Rattle.cursor.proofs.width_of.Goals as goal

pub overflow_cast-result : goal.overflow_cast-result
overflow_cast-result c = omega (arith, c.type_inv.d 3)

pub overflow_add-result : goal.overflow_add-result
overflow_add-result c = omega (arith, c.type_inv.d 3)
