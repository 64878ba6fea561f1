-- `first_slot` meets its contract: a word is at most 65,535, and so is the first block that it says.
use borrow.Author.Rules.{rules}
use native.Mathlib.Omega.{arith}
use mathlib.Core.Path.{refl}
use Prim.Native.Nat.{◌+◌, ◌-◌, ◌*◌}
use Rattle.cursor.specs.Cursor.{first_slot}
use Rattle.cursor.proofs.first_slot.Goals as goal

pub overflow_cast-result : goal.overflow_cast-result
overflow_cast-result c = omega (arith, c.type_inv.d (512 * (c.args.number - 1) + 4))

pub returns : goal.returns
unfolding first_slot
returns c = (
  refl,
  record {
    low = search rules;
    high = search rules;
    some = omega arith;
    most = omega arith;
    small = omega (arith, c.type_inv.d (512 * (c.args.number - 1) + 4));
  },
)
