-- `save` meets its contract: its tests are those of `save_answer`, the first made as two, of which neither can overflow.
use native.Mathlib.Omega.{arith}
use mathlib.Core.Path.{◌∙◌}
use Rattle.loadwrite.proofs.Files.{outside, too_short_lem, saved}
use Rattle.loadwrite.proofs.saving.save.Goals as goal
use Rattle.loadwrite.proofs.saving.save.Goals.{then-size-start-via-then-size-start, then-size-start-via-else-size-start+then-size-start-2}

pub returns-then-size-start : goal.returns-then-size-start
returns-then-size-start c =
    let a = c.args in
    let limit = c.size_of-size.ensures.is in
    outside a.words.now a.out.now a.start a.count a.transfer _
    (elim c.then-size-start.branch [
      | then-size-start-via-then-size-start w ↦ omega (arith, limit)
      | then-size-start-via-else-size-start+then-size-start-2 w ↦ omega (arith, limit)
    ])
    (c.refused.ensures.0 ∙ c.number.ensures, c.refused.ensures.1)

pub returns-then-out-need : goal.returns-then-out-need
returns-then-out-need c =
    let a = c.args in
    let limit = c.size_of-size.ensures.is in
    let need = c.size_for-need.ensures in
    too_short_lem a.words.now a.out.now a.start a.count a.transfer _ (omega (arith, limit)) (omega (arith, need)) c.refused-then-out-need.ensures

pub returns : goal.returns
returns c =
    let a = c.args in
    let limit = c.size_of-size.ensures.is in
    let need = c.size_for-need.ensures in
    saved a.words.now a.out.now a.start a.count a.transfer _ (omega (arith, limit)) need (omega arith) c.put_file.ensures
