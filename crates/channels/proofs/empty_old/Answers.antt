-- `empty_old` meets its contract, by the cases of what was found.
use Rattle.meaning.specs.Answers.{write}
use Rattle.channels.proofs.empty_old.Goals as goal

pub returns-in_default : goal.returns-in_default
unfolding write
returns-in_default c = rw c.in_default.is
