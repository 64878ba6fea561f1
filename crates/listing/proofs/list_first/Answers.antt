-- `list_first` meets its contract: a bad head has the line of 17 (law `bad-head`); with a good one the words that are listed are the
-- directory's (laws `loaded`, `good-head`).
use mathlib.Core.Path.{◌≡◌, sym, ap, ◌∙◌}
use mathlib.Core.Bool.{true}
use native.Mathlib.Omega.{arith}
use lib.ListN.{length}
use Rattle.meaning.specs.Listing.{directory_in}
use Rattle.listing.specs.Bounds.{good_head_of}
use Rattle.listing.proofs.Marks.{head_first, good-parts}
use Rattle.listing.proofs.Whole.{loaded, bad-head, good-head}
use Rattle.listing.proofs.list_first.Goals.{Else-not-good_head}
use Rattle.listing.proofs.list_first.Goals as goal

pub returns-then-not-good_head : goal.returns-then-not-good_head
returns-then-not-good_head c =
    let g = c.good_head in
    let file = c.args.file.now in
    bad-head file (sym (head_first file) ∙ sym g.ensures ∙ c.if-not-good_head.true) c.refused_line.ensures

good-at : (c : Else-not-good_head) → good_head_of 1 7 c.args.file.now ≡ true
good-at c =
    let g = c.good_head in
    sym g.ensures ∙ c.if-not-good_head.false

pub volume_in-v-requires : goal.volume_in-v-requires
volume_in-v-requires c = (good-parts 1 7 c.args.file.now (good-at c)).long

pub load_words-count-requires : goal.load_words-count-requires
load_words-count-requires c =
    let p = good-parts 1 7 c.args.file.now (good-at (goal.at.load_words-count-requires c).Else-not-good_head) in
    (p.long, p.within)

pub slice_bounds-list_words-end : goal.slice_bounds-list_words-end
slice_bounds-list_words-end c =
    let w = c.load_words-count.ensures in
    omega (arith, w.ends, ap length (loaded w))

pub returns : goal.returns
unfolding directory_in
returns c =
    let file = c.args.file.now in
    good-head file (sym (head_first file) ∙ good-at (goal.at.returns c).Else-not-good_head) c.volume_in-v.ensures.is (loaded c.load_words-count.ensures) c.list_words.ensures
