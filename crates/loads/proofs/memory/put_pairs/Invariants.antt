-- `put_pairs` meets its contract: each turn leaves what `Filling` says (laws `fill_pair`, `fill_byte`, `fill_ends`).
use Rattle.loads.proofs.Bytes.{Filling}
use Rattle.loads.proofs.memory.put_pairs.Given as goal

abbrev pub invariant-loop-i : goal.invariant-loop-i
invariant-loop-i l = Filling l.address l.bytes l.initial.words l.words l.i
