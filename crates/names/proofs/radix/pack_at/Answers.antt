-- `pack_at` meets its contract: a legal text has nine bytes, each of them a space, a letter or a digit.
use native.Mathlib.Omega.{arith}
use Rattle.names.specs.Radix.{packed_at}
use Rattle.names.proofs.Names.{legal-parts, legal_in}
use Rattle.names.proofs.radix.pack_at.Goals as goal

pub bounds-text-at : goal.bounds-text-at
bounds-text-at c = let p = legal-parts _ c.requires.0 in omega (arith, p.nine)

pub bounds-text-at-2 : goal.bounds-text-at-2
bounds-text-at-2 c = let p = legal-parts _ c.requires.0 in omega (arith, p.nine)

pub bounds-text-at-3 : goal.bounds-text-at-3
bounds-text-at-3 c = let p = legal-parts _ c.requires.0 in omega (arith, p.nine)

pub pack-requires : goal.pack-requires
pack-requires c =
    (legal_in _ c.requires.0 _ (omega arith), legal_in _ c.requires.0 _ (omega arith), legal_in _ c.requires.0 _ (omega arith))

pub returns : goal.returns
unfolding packed_at
returns c = c.pack.ensures
