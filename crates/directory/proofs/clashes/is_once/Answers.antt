-- `is_once` meets its contract: an arm for each key, as the definition has it. Assumes nothing.
use Rattle.meaning.specs.Keys.{once}
use Rattle.directory.proofs.clashes.is_once.Goals as goal

pub returns-in-File : goal.returns-in-File
unfolding once
returns-in-File c = rw (c.in-File.is, ← c.is_spared.ensures)

pub returns-in-Open : goal.returns-in-Open
unfolding once
returns-in-Open c = rw c.in-Open.is
