-- `check` meets its contract: each of its ends has the tests that led to it, and what a test presumes is what those before it gave.
use native.Mathlib.Omega.{arith}
use mathlib.Core.Path.{sym, ◌∙◌}
use Rattle.std.proofs.lemmas.Grind.{common_steps}
use Rattle.walks.proofs.Heads.{sized, headed}
use Rattle.directory.proofs.Checking.{kept1, first, second, third, chain-kept, measured, last, sound}
use Rattle.directory.proofs.sound.check.Goals as goal

pub returns-then-size_wrong : goal.returns-then-size_wrong
returns-then-size_wrong c = first c.args.v c.args.d.now c.size_wrong.ensures c.if-size_wrong.true

pub head_wrong-requires : goal.head_wrong-requires
head_wrong-requires c =
    let s = sized c.args.v c.args.d.now (kept1 c.args.v c.args.d.now c.size_wrong.ensures c.if-size_wrong.false) in
    omega arith

pub returns-then-head_wrong : goal.returns-then-head_wrong
returns-then-head_wrong c = second c.args.v c.args.d.now c.size_wrong.ensures c.if-size_wrong.false c.head_wrong.ensures c.if-head_wrong.true

pub links_right-requires : goal.links_right-requires
links_right-requires c =
    let s = sized c.args.v c.args.d.now (kept1 c.args.v c.args.d.now c.size_wrong.ensures c.if-size_wrong.false) in
    let h = headed c.args.d.now (sym c.head_wrong.ensures ∙ c.if-head_wrong.false) in
    (omega arith, omega arith)

pub returns-then-not-links_right : goal.returns-then-not-links_right
returns-then-not-links_right c =
    third c.args.v c.args.d.now c.size_wrong.ensures c.if-size_wrong.false c.head_wrong.ensures c.if-head_wrong.false c.links_right.ensures c.if-not-links_right.true

pub measure-requires : goal.measure-requires
measure-requires c =
    chain-kept c.args.v c.args.d.now c.size_wrong.ensures c.if-size_wrong.false c.head_wrong.ensures c.if-head_wrong.false c.links_right.ensures c.if-not-links_right.false

pub returns-in_err-measure : goal.returns-in_err-measure
returns-in_err-measure c =
    let t = measured c.args.v c.args.d.now c.size_wrong.ensures c.if-size_wrong.false c.head_wrong.ensures c.if-head_wrong.false c.links_right.ensures c.if-not-links_right.false c.in_err-measure.field-0.0 c.in_err-measure.ensures in
    let e = c.from_residual.ensures in
    grind (arith, common_steps)

pub entries_clash-requires : goal.entries_clash-requires
entries_clash-requires c =
    chain-kept c.args.v c.args.d.now c.size_wrong.ensures c.if-size_wrong.false c.head_wrong.ensures c.if-head_wrong.false c.links_right.ensures c.if-not-links_right.false

pub returns-then-entries_clash : goal.returns-then-entries_clash
returns-then-entries_clash c =
    last c.args.v c.args.d.now c.size_wrong.ensures c.if-size_wrong.false c.head_wrong.ensures c.if-head_wrong.false c.links_right.ensures c.if-not-links_right.false
    c.in_ok-measure.ensures c.entries_clash.ensures c.if-entries_clash.true

pub returns : goal.returns
returns c =
    sound c.args.v c.args.d.now c.size_wrong.ensures c.if-size_wrong.false c.head_wrong.ensures c.if-head_wrong.false c.links_right.ensures c.if-not-links_right.false
    c.in_ok-measure.ensures c.entries_clash.ensures c.if-entries_clash.false
