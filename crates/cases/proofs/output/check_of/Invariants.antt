-- `check_of` meets its contract: what is left of the words, with both sums so far, gives the check of all (Checked).
use Rattle.cases.proofs.Checked.{Checking}
use Rattle.cases.proofs.output.check_of.Given as goal

abbrev pub invariant-loop-word : goal.invariant-loop-word
invariant-loop-word l = Checking l.words l.sums l.word-index
