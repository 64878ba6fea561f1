-- `digit` meets its contract: it is the definition.
use mathlib.Core.Path.{refl}
use Rattle.maps.specs.Maps.{octal_digit}
use Rattle.maps.proofs.digit.Goals as goal

pub returns : goal.returns
unfolding octal_digit
returns c = refl
