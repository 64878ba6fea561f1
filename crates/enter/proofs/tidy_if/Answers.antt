-- `tidy_if` meets its contract: without an untidy segment the directory is as the tidy leaves it (`tidied-already`).
use mathlib.Core.Path.{sym, ◌∙◌}
use Rattle.meaning.specs.Words.{chain}
use Rattle.survey.proofs.Along.{tidied-already}
use Rattle.enter.proofs.Ready.{tidyable}
use Rattle.enter.proofs.tidy_if.Goals as goal

pub tidy_all-requires : goal.tidy_all-requires
tidy_all-requires c = tidyable c.args.v c.args.d.now c.requires.0

pub returns-else-untidy : goal.returns-else-untidy
returns-else-untidy c =
    let d = c.args.d.now in
    sym (tidied-already d (chain d) (sym c.requires.1 ∙ c.if-untidy.false))
