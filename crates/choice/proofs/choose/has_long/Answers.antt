-- `has_long` meets its contract: the entries that the iterator gives are those of the segment.
use mathlib.Core.Path.{◌∙◌}
use Rattle.std.proofs.Common.{rules, tests}
use Rattle.std.proofs.lemmas.Iterator.Consumers.{YieldsList-from_first}
use Rattle.std.proofs.lemmas.Iterator.Search.{any_from_yields_List}
use Rattle.segment.specs.Entries.{ahead}
use Rattle.choice.specs.Judged.{long_entry}
use Rattle.choice.proofs.Longs.{any-long}
use Rattle.choice.proofs.choose.has_long.Goals as goal

pub returns : goal.returns
returns c =
    let a = c.args in
    any_from_yields_List (long_entry a.least) c.any.new.self _ c.any.result c.any.ensures.ran
    (YieldsList-from_first (λ e. e.words.now) (λ s. ahead s.width s.rest.now) _ c.entries_of.ensures.left) (λ x b q k. search (rules, tests))
    ∙ any-long a.least _
