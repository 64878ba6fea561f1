-- `check_of_bytes` meets its contract: what is left of the bytes, with both sums so far, gives the check of all (Checked).
use Rattle.std.proofs.Common.{◌<◌, ◌≤◌, length, rules}
use Rattle.cases.proofs.Checked.{begins, goes_on_lem, ends}
use Rattle.cases.proofs.output.check_of_bytes.Goals as goal

pub loop-byte-init : goal.loop-byte-init
loop-byte-init c = begins _

pub loop-byte-preserved : goal.loop-byte-preserved
loop-byte-preserved c =
    let h : c.loop-byte.byte-index < length c.args.bytes.now = search rules in
    goes_on_lem _ _ _ _ h c.loop-byte.invariant c.added-sums.ensures

pub returns : goal.returns
returns c =
    let h : length c.args.bytes.now ≤ c.loop-byte.byte-index = search rules in
    ends _ _ _ h c.loop-byte.invariant
