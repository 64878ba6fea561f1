-- `entry_words` meets its contract: seven words stored into zeros, by computation.
use mathlib.Core.Path.{refl}
use Rattle.meaning.specs.Requests.{entry_of}
use Rattle.render.proofs.entry_words.Goals as goal

pub returns : goal.returns
unfolding entry_of
returns c = refl
