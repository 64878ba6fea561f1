-- `has_key` meets its contract: a permanent entry has a key, and any other if it is tentative.
use Rattle.std.proofs.Common.{arith}
use Rattle.std.proofs.lemmas.Bool.Decides.{nat_tests}
use Rattle.directory.proofs.Clashing.{keyed-by}
use Rattle.directory.proofs.clashes.has_key.Goals as goal

pub returns-then-is_permanent : goal.returns-then-is_permanent
returns-then-is_permanent c =
    let k = keyed-by c.args.entry.now.words.now in
    let p = rw c.status.ensures at c.is_permanent.ensures in
    grind (arith, nat_tests)

pub returns-else-is_permanent : goal.returns-else-is_permanent
returns-else-is_permanent c =
    let k = keyed-by c.args.entry.now.words.now in
    let p = rw c.status.ensures at c.is_permanent.ensures in
    let t = rw c.status-else-is_permanent.ensures at c.is_tentative.ensures in
    grind (arith, nat_tests)
