-- `find_in` meets its contract: a turn ends with a hit, or passes an entry by, with a law for each; and at the end nothing is found.
use Prim.Native.Nat.{◌≤◌}
use native.Mathlib.Omega.{arith}
use mathlib.Core.Path.{sym, ◌∙◌}
use Rattle.segment.proofs.Searching.{counted, hits, counted_on, none_left}
use Rattle.segment.proofs.finder.find_in.Goals as goal

pub loop-passed-init : goal.loop-passed-init
loop-passed-init c =
    let a = c.args in
    let items = c.enumerate-passed-items.ensures in
    rw (c.into_iter-passed-iterator.ensures.into_iter_gives, items.source, items.count, c.entries_of.ensures.left)
    (counted a.segment.now a.width a.number a.base a.first a.key)

pub returns-then-slot_keyed : goal.returns-then-slot_keyed
returns-then-slot_keyed c =
    let e = c.in-Some.entry.words.now in
    let steps = c.in-Some.ensures.steps in
    rw (steps.1, c.status.ensures, c.blocks-then-slot_keyed.ensures, c.date.ensures)
    (hits c.loop-passed.invariant e _ steps.0 (sym c.slot_keyed.ensures ∙ c.if-slot_keyed.true))

pub loop-passed-preserved : goal.loop-passed-preserved
loop-passed-preserved c =
    let e = c.in-Some.entry.words.now in
    let steps = c.in-Some.ensures.steps in
    let small : c.blocks-in-loop-passed.result ≤ 65535 = omega (arith, c.blocks-in-loop-passed.type_inv) in
    rw (steps.2, c.blocks-in-loop-passed.ensures)
    (counted_on _ c.loop-passed.invariant e _ steps.0 (sym c.slot_keyed.ensures ∙ c.if-slot_keyed.false) (rw c.blocks-in-loop-passed.ensures at small))

pub returns : goal.returns
returns c = none_left c.loop-passed.invariant c.in-None.ensures.steps.0.0
