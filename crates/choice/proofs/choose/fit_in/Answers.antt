-- `fit_in` meets its contract: each turn ends with a fit, or passes an entry by, with a law for each; and at the end there is none.
use Prim.Native.Nat.{◌≤◌}
use native.Mathlib.Omega.{arith}
use mathlib.Core.Path.{sym, ◌∙◌}
use Rattle.meaning.specs.Words.{blocks}
use Rattle.choice.proofs.Fitting.{starts, slot_fits, few, fit_hit, fit_miss, no_fit_left}
use Rattle.choice.proofs.choose.fit_in.Goals.{In-Some}
use Rattle.choice.proofs.choose.fit_in.Goals as goal

pub loop-before-init : goal.loop-before-init
loop-before-init c =
    let a = c.args in
    rw (c.into_iter-before-iterator.ensures.into_iter_gives, c.enumerate-before-items.ensures.source, c.enumerate-before-items.ensures.count, c.entries_of.ensures.left)
    (starts a.segment.now a.width a.number a.free a.least (omega (arith, c.type_inv.segment 4)))

pub returns-then-is_fit : goal.returns-then-is_fit
returns-then-is_fit c =
    let steps = c.in-Some.ensures.steps in
    rw (steps.1, c.blocks-then-is_fit.ensures)
    (fit_hit c.loop-before.invariant c.in-Some.entry.words.now _ steps.0 (sym c.is_fit.ensures ∙ c.if-is_fit.true) c.requires.1 _ c.cost_after.ensures)

pub overflow_add-at-in-loop-before : goal.overflow_add-at-in-loop-before
overflow_add-at-in-loop-before c =
    let v = c.loop-before.invariant in
    omega (arith, v.place, slot_fits v c.in-Some.entry.words.now _ c.in-Some.ensures.steps.0)

pub overflow_add-first : goal.overflow_add-first
overflow_add-first c =
    let v = c.loop-before.invariant in
    omega (arith, v.small, few v c.in-Some.entry.words.now _ c.in-Some.ensures.steps.0, c.blocks-in-loop-before.type_inv)

pub loop-before-preserved : goal.loop-before-preserved
loop-before-preserved c =
    let steps = c.in-Some.ensures.steps in
    let e = c.in-Some.entry.words.now in
    let small : blocks e ≤ 65535 = omega (arith, c.blocks-in-loop-before.ensures, c.blocks-in-loop-before.type_inv) in
    rw (steps.2, c.blocks-in-loop-before.ensures, c.is_tentative-tentative.ensures, c.status.ensures)
    (fit_miss c.loop-before.invariant e _ steps.0 (sym c.is_fit.ensures ∙ c.if-is_fit.false) small)

pub returns : goal.returns
returns c = no_fit_left c.loop-before.invariant c.in-None.ensures.steps.0.0
