-- `at_least` meets its contract: each case of the enum is the meaning's case of that name.
use mathlib.Core.Logic.{⊎_elim}
use Rattle.meaning.specs.Enter.{at_least}
use Rattle.choice.proofs.size.at_least.Goals as goal

pub returns-in-Longest : goal.returns-in-Longest
unfolding at_least
returns-in-Longest c = ⊎_elim (λ e. rw e) (λ e. rw e) c.in-Longest.is

pub returns-in-Exact : goal.returns-in-Exact
unfolding at_least
returns-in-Exact c = rw c.in-Exact.is
