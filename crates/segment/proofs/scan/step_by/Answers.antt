-- `step_by` meets its contract: the first test that holds tells the kind, and then the step is that kind's.
use mathlib.Core.Path.{◌≡◌, sym, ◌∙◌}
use mathlib.Core.Bool.{false}
use Rattle.meaning.specs.Kinds.{kind_of, is_permanent, is_empty, is_tentative}
use Rattle.meaning.specs.Sound.{long_name}
use Rattle.walks.proofs.Told.{permanent-kind, empty-kind, tentative-kind, end-kind, no_kind}
use Rattle.segment.proofs.Scanning.{due-bad}
use Rattle.segment.proofs.scan.step_by.Goals.{Else-is_tentative}
use Rattle.segment.proofs.scan.step_by.Goals as goal

pub returns-then-is_permanent : goal.returns-then-is_permanent
returns-then-is_permanent c =
    rw (permanent-kind (kind_of c.args.status) (sym c.is_permanent.ensures ∙ c.if-is_permanent.true))
    c.named_step.ensures

pub returns-then-is_empty : goal.returns-then-is_empty
returns-then-is_empty c =
    rw (empty-kind (kind_of c.args.status) (sym c.is_empty.ensures ∙ c.if-is_empty.true))

pub returns-then-is_tentative : goal.returns-then-is_tentative
returns-then-is_tentative c =
    let kind = kind_of c.args.status in
    rw (tentative-kind kind (sym c.is_tentative.ensures ∙ c.if-is_tentative.true)) c.named_step-then-is_tentative.ensures

-- what is left after the tests for an entry
other_at : (c : Else-is_tentative)
    → let kind = kind_of c.args.status in
    (is_permanent kind ≡ false) × (is_empty kind ≡ false) × (is_tentative kind ≡ false)
other_at c =
    let c2 = c.before.before in
    let c1 = c2.before.before in (
      sym c1.is_permanent.ensures ∙ c1.if-is_permanent.false,
      sym c2.is_empty.ensures ∙ c2.if-is_empty.false,
      sym c.is_tentative.ensures ∙ c.if-is_tentative.false,
    )

pub returns-then-owed : goal.returns-then-owed
returns-then-owed c =
    let a = c.args in
    let o = other_at (goal.at.returns-then-owed c).Else-is_tentative in
    rw c.if-owed.true (due-bad (kind_of a.status) (long_name a.name) a.blocks o.0 o.1 o.2)

pub returns-then-is_marker : goal.returns-then-is_marker
returns-then-is_marker c =
    let kind = kind_of c.args.status in
    rw (end-kind kind (sym c.is_marker.ensures ∙ c.if-is_marker.true), c.if-owed.false)

pub returns : goal.returns
returns c =
    let kind = kind_of c.args.status in
    let o = other_at (goal.at.returns c).Else-is_tentative in
    rw (no_kind kind o.0 o.1 o.2 (sym c.is_marker.ensures ∙ c.if-is_marker.false))
