-- `kind_of` meets its contract: the first test that holds tells the kind, and what none tells is unknown.
use mathlib.Core.Path.{sym, ◌∙◌}
use Rattle.walks.proofs.Told.{permanent-kind, empty-kind, tentative-kind, end-kind, no_kind}
use Rattle.segment.proofs.kinds.kind_of.Goals as goal

pub returns-then-is_permanent : goal.returns-then-is_permanent
returns-then-is_permanent c = sym (permanent-kind _ (sym c.is_permanent.ensures ∙ c.if-is_permanent.true))

pub returns-then-is_empty : goal.returns-then-is_empty
returns-then-is_empty c = sym (empty-kind _ (sym c.is_empty.ensures ∙ c.if-is_empty.true))

pub returns-then-is_tentative : goal.returns-then-is_tentative
returns-then-is_tentative c = sym (tentative-kind _ (sym c.is_tentative.ensures ∙ c.if-is_tentative.true))

pub returns-then-is_marker : goal.returns-then-is_marker
returns-then-is_marker c = sym (end-kind _ (sym c.is_marker.ensures ∙ c.if-is_marker.true))

pub returns : goal.returns
returns c =
    let p = sym c.is_permanent.ensures ∙ c.if-is_permanent.false in
    let e = sym c.is_empty.ensures ∙ c.if-is_empty.false in
    let t = sym c.is_tentative.ensures ∙ c.if-is_tentative.false in
    let m = sym c.is_marker.ensures ∙ c.if-is_marker.false in
    sym (no_kind _ p e t m)
