-- `is_named` meets its contract: names are compared by their words.
use mathlib.Core.Path.{ap, ◌∙◌}
use Rattle.meaning.specs.Words.{same_name}
use Rattle.segment.proofs.Named.{same_words}
use Rattle.segment.proofs.naming.is_named.Goals as goal

pub returns : goal.returns
returns c = c.eq.ensures ∙ same_words c.name.result c.args.name ∙ ap (λ n. same_name n c.args.name) c.name.ensures
