-- `count_entries` meets its contract: the entries that the iterator gives are those of the segment, and they are few.
use native.Mathlib.Omega.{arith}
use mathlib.Core.Logic.{inl}
use mathlib.Core.Path.{◌≡◌}
use lib.ListN.{length}
use Rattle.std.proofs.lemmas.Iterator.Consumers.{YieldsList-from_first, count_from_yields_List}
use Rattle.meaning.specs.Words.{slots, upto}
use Rattle.segment.specs.Entries.{ahead}
use Rattle.walks.proofs.Slots.{entries-count}
use Rattle.segment.proofs.Ahead.{slots-room, few-slots}
use Rattle.segment.proofs.count.count_entries.Goals as goal

pub count-requires-clause-fits : goal.count-requires-clause-fits
count-requires-clause-fits c = inl (omega (arith, c.entries_of.ensures.few))

pub returns : goal.returns
returns c =
    let w = c.args.width in
    let g = c.args.segment.now in
    let road = YieldsList-from_first (λ e. e.words.now) (λ s. ahead s.width s.rest.now) (upto (slots w g)) c.entries_of.ensures.left in
    let e : c.count.result ≡ length (upto (slots w g)) = count_from_yields_List c.entries_of.result _ c.count.ensures.ran road in
    let few = entries-count w g in
    record { is = e; few = omega arith; small = omega (arith, few-slots w); room = rw e (slots-room (length (upto (slots w g))) w few) }
