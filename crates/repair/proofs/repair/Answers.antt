-- `repair` meets its contract: a sound directory and damage beyond repair stay; else the proposal is put over the words, or not.
use native.Mathlib.Omega.{arith}
use mathlib.Core.Path.{◌≡◌, sym, ap, ◌∙◌}
use mathlib.Core.Bool.{false}
use lib.Seq.{length-take-le}
use Rattle.repaired.specs.Kept.{beyond}
use Rattle.meaning.specs.Sound.{fault}
use Rattle.repair.specs.Repairs.{Reparable}
use Rattle.repair.proofs.Judged.{reparable, tool_sound, tool_beyond, tool_proposes, none-proposed, one-proposed}
use Rattle.repair.proofs.repair.Goals.{Else-is_beyond, then-number-eq0-via-then-number-eq0, then-number-eq0-via-else-number-eq0+then-is_beyond}
use Rattle.repair.proofs.repair.Goals as goal

-- after both tests there is damage that may be repaired
left_over : (c : Else-is_beyond) → beyond (fault c.args.v c.args.d.now) ≡ false
left_over c = sym (ap beyond c.fault_of-number.ensures) ∙ sym c.is_beyond.ensures ∙ c.if-is_beyond.false

reparable-at : (c : Else-is_beyond) → Reparable c.args.v c.args.d.now
reparable-at c = reparable _ _ (left_over c)

pub returns-then-number-eq0 : goal.returns-then-number-eq0
returns-then-number-eq0 c =
    let a = c.args in
    let f = c.fault_of-number.ensures in
    elim c.then-number-eq0.branch [
      | then-number-eq0-via-then-number-eq0 w ↦ rw f (tool_sound a.v a.d.now (sym f ∙ w.if-number-eq0.true))
      | then-number-eq0-via-else-number-eq0+then-is_beyond w ↦
          rw f (tool_beyond a.v a.d.now (sym (ap beyond f) ∙ sym w.is_beyond.ensures ∙ w.if-is_beyond.true))
    ]

pub slice_bounds-room-end : goal.slice_bounds-room-end
slice_bounds-room-end c = (reparable-at c).chained.few

pub slice_bounds-proposed-end : goal.slice_bounds-proposed-end
slice_bounds-proposed-end c =
    let r = (reparable-at (goal.at.slice_bounds-proposed-end c).Else-is_beyond).chained.few in
    sym (length-take-le _ _ (omega arith))

pub mend_into-requires : goal.mend_into-requires
mend_into-requires c =
    let r = reparable-at (goal.at.mend_into-requires c).Else-is_beyond in
    (r, length-take-le _ _ (omega (arith, r.chained.few)))

pub is_passing-requires : goal.is_passing-requires
is_passing-requires c = (reparable-at (goal.at.is_passing-requires c).Else-is_beyond).chained

pub returns-then-not-is_passing : goal.returns-then-not-is_passing
returns-then-not-is_passing c =
    let a = c.args in
    tool_proposes a.v a.d.now (left_over (goal.at.returns-then-not-is_passing c).Else-is_beyond)
    (λ e. c.if-number-eq0.false (c.fault_of-number.ensures ∙ e))
    (none-proposed a.v a.d.now c.mend_into.ensures c.is_passing.ensures c.if-not-is_passing.true)

pub copy_from_slice-requires : goal.copy_from_slice-requires
copy_from_slice-requires c =
    let r = reparable-at (goal.at.copy_from_slice-requires c).Else-is_beyond in
    sym (c.mend_into.auto.t ∙ length-take-le _ _ (omega (arith, r.chained.few)))

pub returns : goal.returns
returns c =
    let a = c.args in
    tool_proposes a.v a.d.now (left_over (goal.at.returns c).Else-is_beyond) (λ e. c.if-number-eq0.false (c.fault_of-number.ensures ∙ e))
    (one-proposed a.v a.d.now c.mend_into.ensures c.is_passing.ensures c.if-not-is_passing.false c.copy_from_slice.ensures.after)
