-- `check_of_bytes` meets its contract: what is left of the bytes, with both sums so far, gives the check of all (Checked).
use Rattle.cases.proofs.Checked.{Checking}
use Rattle.cases.proofs.output.check_of_bytes.Given as goal

abbrev pub invariant-loop-byte : goal.invariant-loop-byte
invariant-loop-byte l = Checking l.bytes l.sums l.byte-index
