-- `check_of` meets its contract: what is left of the words, with both sums so far, gives the check of all (Checked).
use Rattle.std.proofs.Common.{◌<◌, ◌≤◌, length, rules}
use Rattle.cases.proofs.Checked.{begins, goes_on_lem, ends}
use Rattle.cases.proofs.output.check_of.Goals as goal

pub loop-word-init : goal.loop-word-init
loop-word-init c = begins _

pub loop-word-preserved : goal.loop-word-preserved
loop-word-preserved c =
    let h : c.loop-word.word-index < length c.args.words.now = search rules in
    goes_on_lem _ _ _ _ h c.loop-word.invariant c.added-sums.ensures

pub returns : goal.returns
returns c =
    let h : length c.args.words.now ≤ c.loop-word.word-index = search rules in
    ends _ _ _ h c.loop-word.invariant
