-- Two names are the same where their words are, as code compares them. Assumes nothing.
use mathlib.Core.Path.{◌≡◌, sym}
use mathlib.Core.Bool.{◌&&◌, and_assoc}
use lib.Dec.{eqb}
use Rattle.meaning.specs.declared.Name.{Name}
use Rattle.meaning.specs.Words.{same_name}

pub same_words : (n m : Name) → eqb n.first m.first && (eqb n.second m.second && eqb n.extension m.extension) ≡ same_name n m
unfolding same_name
same_words n m = sym (and_assoc (eqb n.first m.first) (eqb n.second m.second) (eqb n.extension m.extension))
