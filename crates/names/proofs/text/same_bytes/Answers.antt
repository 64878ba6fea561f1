-- `same_bytes` meets its contract: the loop keeps that what is left of the two is the same exactly where the two are (laws of Same).
use mathlib.Core.Path.{refl, sym, ◌∙◌}
use native.Mathlib.Omega.{arith}
use Rattle.names.proofs.Same.{same_differ, same_agree, same_ended, same-lengths}
use Rattle.names.proofs.text.same_bytes.Goals as goal

pub returns-then-x-y : goal.returns-then-x-y
returns-then-x-y c = sym (same-lengths c.args.x.now c.args.y.now c.if-x-y.true)

pub loop-i-init : goal.loop-i-init
loop-i-init c = (omega arith, c.if-x-y.false, refl)

pub returns-then-x-i : goal.returns-then-x-i
returns-then-x-i c = let l = c.loop-i in
    let a = c.args in
    sym (same_differ a.x.now a.y.now l.i (omega arith) (omega arith) c.if-x-i.true) ∙ l.invariant.2

pub loop-i-preserved : goal.loop-i-preserved
loop-i-preserved c = let l = c.loop-i in
    let a = c.args in
    (omega arith, l.invariant.1, sym (same_agree a.x.now a.y.now l.i (omega arith) (omega arith) c.if-x-i.false) ∙ l.invariant.2)

pub returns : goal.returns
returns c = let l = c.loop-i in
    let a = c.args in
    sym (same_ended a.x.now a.y.now l.i (omega arith) (omega arith)) ∙ l.invariant.2
