-- `put_gap` meets its contract: at cost 2 the array begins with the gap's words, and else there are none to write.
use mathlib.Core.Path.{sym}
use Rattle.segment.proofs.Writes.{none_written}
use Rattle.render.proofs.Anew.{gap_array_lem, gap-due, gap-none}
use Rattle.render.proofs.put_gap.Goals as goal

pub slice_bounds-put_words-end : goal.slice_bounds-put_words-end
slice_bounds-put_words-end c =
    sym (gap_array_lem c.args.width c.requires.1)

pub put_words-requires : goal.put_words-requires
put_words-requires c =
    let a = c.args in
    let h = c.requires in
    rw (gap-due a.width a.cost c.if-cost-eq2.true h.0 h.1) h.2

pub returns-then-cost-eq2 : goal.returns-then-cost-eq2
returns-then-cost-eq2 c =
    let a = c.args in
    let h = c.requires in
    rw (← gap-due a.width a.cost c.if-cost-eq2.true h.0 h.1) c.put_words.ensures

pub returns : goal.returns
returns c =
    let a = c.args in
    rw (gap-none a.width a.cost c.if-cost-eq2.false) (none_written a.out.now a.place)
