-- `accept` meets its contract: damage beyond repair has its number, and else the proposal passes or is rejected.
use mathlib.Core.Path.{sym, ap, ◌∙◌}
use Rattle.repaired.specs.Kept.{beyond}
use Rattle.repair.proofs.Judged.{reparable, test_beyond, test_passes, test_fails}
use Rattle.repair.proofs.accept.Goals as goal

pub returns-then-is_beyond : goal.returns-then-is_beyond
returns-then-is_beyond c =
    let a = c.args in
    let f = c.fault_of-number.ensures in
    f ∙ test_beyond a.v a.d.now a.w.now (sym (ap beyond f) ∙ sym c.is_beyond.ensures ∙ c.if-is_beyond.true)

pub is_passing-requires : goal.is_passing-requires
is_passing-requires c =
    let a = c.args in
    let f = c.fault_of-number.ensures in
    (reparable a.v a.d.now (sym (ap beyond f) ∙ sym c.is_beyond.ensures ∙ c.if-is_beyond.false)).chained

pub returns-then-is_passing : goal.returns-then-is_passing
returns-then-is_passing c =
    let a = c.args in
    let f = c.fault_of-number.ensures in
    test_passes a.v a.d.now a.w.now (sym (ap beyond f) ∙ sym c.is_beyond.ensures ∙ c.if-is_beyond.false) (sym c.is_passing.ensures ∙ c.if-is_passing.true)

pub returns-else-is_passing : goal.returns-else-is_passing
returns-else-is_passing c =
    let a = c.args in
    let f = c.fault_of-number.ensures in
    test_fails a.v a.d.now a.w.now (sym (ap beyond f) ∙ sym c.is_beyond.ensures ∙ c.if-is_beyond.false) (sym c.is_passing.ensures ∙ c.if-is_passing.false)
