-- `list_second` meets its contract: a label that is refused has the line of its number (law `bad-block`); with any other the words that are
-- listed are the directory's (laws `loaded`, `good-block`).
use mathlib.Core.Path.{ap, ◌∙◌}
use native.Mathlib.Omega.{arith}
use lib.ListN.{length}
use Rattle.listing.specs.HeadFiles.{block_in, words_after_block}
use Rattle.listing.proofs.Marks.{head-second, Good, good-parts}
use Rattle.listing.proofs.Whole.{loaded}
use Rattle.listing.proofs.Second.{bad-block, good-block}
use Rattle.listing.proofs.list_second.Goals.{Start}
use Rattle.listing.proofs.list_second.Goals as goal

good-at : (s : Start) → Good 519 s.args.file.now
good-at s = good-parts 2 519 s.args.file.now (head-second s.args.file.now ∙ s.requires.0)

pub slice_bounds-read_label-end : goal.slice_bounds-read_label-end
slice_bounds-read_label-end c = omega (arith, good-at (goal.at.slice_bounds-read_label-end c).Start)

pub returns-then-label-ne0 : goal.returns-then-label-ne0
unfolding block_in
returns-then-label-ne0 c =
    bad-block c.args.file.now c.read_label-label.ensures c.if-label-ne0.true c.refused_line.ensures

pub volume_in-v-requires : goal.volume_in-v-requires
volume_in-v-requires c = omega (arith, good-at (goal.at.volume_in-v-requires c).Start)

pub load_words-count-requires : goal.load_words-count-requires
load_words-count-requires c =
    let p = good-at (goal.at.load_words-count-requires c).Start in
    (p.long, p.within)

pub slice_bounds-list_labelled-end : goal.slice_bounds-list_labelled-end
slice_bounds-list_labelled-end c =
    let w = c.load_words-count.ensures in
    omega (arith, w.ends, ap length (loaded w))

pub returns : goal.returns
unfolding block_in words_after_block
returns c =
    good-block c.args.file.now c.read_label-label.ensures c.if-label-ne0.false c.volume_in-v.ensures.is
    (loaded c.load_words-count.ensures) c.list_labelled.ensures
