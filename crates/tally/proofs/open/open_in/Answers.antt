-- `open_in` meets its contract: the iterator gives the entries before the marker, of which `any` asks each.
use mathlib.Core.Path.{◌∙◌}
use Rattle.std.proofs.Common.{rules}
use Rattle.std.proofs.lemmas.Iterator.Consumers.{YieldsList-from_first}
use Rattle.std.proofs.lemmas.Iterator.Search.{any_from_yields_List}
use Rattle.meaning.specs.Words.{slots, upto}
use Rattle.segment.specs.Entries.{ahead}
use Rattle.tally.proofs.Opens.{is_open, any_is}
use Rattle.tally.proofs.open.open_in.Goals as goal

pub returns : goal.returns
returns c =
    let es = upto (slots c.args.width c.args.segment.now) in
    let road = YieldsList-from_first (λ e. e.words.now) (λ s. ahead s.width s.rest.now) es c.entries_of-entries.ensures.left in
    any_from_yields_List is_open c.any.new.self _ _ c.any.ensures.ran road (λ x b q k. search rules) ∙ any_is is_open es
