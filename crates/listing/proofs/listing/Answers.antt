-- `listing` meets its contract: a good head file of version 2 has its listing (law `listed-second`), and any other document 01's (law
-- `listed-first`).
use mathlib.Core.Path.{◌≡◌, sym, ◌∙◌}
use mathlib.Core.Bool.{true}
use native.Mathlib.Omega.{arith}
use Rattle.listing.specs.HeadFiles.{good_second}
use Rattle.listing.proofs.Marks.{head-second}
use Rattle.listing.proofs.Second.{listed-second, listed-first}
use Rattle.listing.proofs.listing.Goals.{Then-good_head}
use Rattle.listing.proofs.listing.Goals as goal

good-at : (c : Then-good_head) → good_second c.args.file.now ≡ true
good-at c =
    let file = c.args.file.now in
    let g = c.good_head in
    sym (head-second file) ∙ sym g.ensures ∙ c.if-good_head.true

pub list_second-requires : goal.list_second-requires
list_second-requires c = (good-at (goal.at.list_second-requires c).Then-good_head, omega arith)

pub returns-then-good_head : goal.returns-then-good_head
returns-then-good_head c =
    listed-second c.args.file.now (good-at (goal.at.returns-then-good_head c).Then-good_head) c.list_second.ensures

pub returns : goal.returns
returns c =
    let file = c.args.file.now in
    let g = c.good_head in
    listed-first file (sym (head-second file) ∙ sym g.ensures ∙ c.if-good_head.false) c.list_first.ensures
